use borrow.Author.Rules.{rules}
use Rattle.host.proofs.Building.{start-written}
use Rattle.host.proofs.write_start.Goals as goal

pub returns : goal.returns
returns c = search (rules, start-written)
