use borrow.Author.Rules.{rules}
use Rattle.inventory.proofs.Queue.{fault-tested}
use Rattle.inventory.proofs.rings.fault.Goals as goal

pub returns : goal.returns
returns c = search (rules, fault-tested)
