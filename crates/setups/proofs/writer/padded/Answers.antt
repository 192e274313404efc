use borrow.Author.Rules.{rules}
use Rattle.setups.proofs.Writing.{pads}
use Rattle.setups.proofs.writer.padded.Goals as goal

pub returns : goal.returns
returns c = search (rules, pads)
