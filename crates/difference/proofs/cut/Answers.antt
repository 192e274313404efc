use borrow.Author.Rules.{rules}
use Rattle.difference.proofs.Handed.{part_bytes}
use Rattle.difference.proofs.cut.Goals as goal

pub returns : goal.returns
returns c = search (rules, part_bytes)
