use borrow.Author.Rules.{rules}
use Rattle.host.proofs.Building.{alone}
use Rattle.host.proofs.create.Goals as goal

pub returns : goal.returns
returns c = search (rules, alone)
