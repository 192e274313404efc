use borrow.Author.Rules.{rules}
use Rattle.setups.proofs.Reading.{setup-read}
use Rattle.setups.proofs.reader.setup_at.Goals as goal

pub returns : goal.returns
returns c = search (rules, setup-read)
