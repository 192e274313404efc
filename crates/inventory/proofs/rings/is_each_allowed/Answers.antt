use borrow.Author.Rules.{rules}
use Rattle.inventory.proofs.Queue.{each_start, each-stop, each_on, each-end}
use Rattle.inventory.proofs.rings.is_each_allowed.Goals as goal

pub loop-k-init : goal.loop-k-init
loop-k-init c = search (rules, each_start)

pub returns-then-not-is_queue_allowed : goal.returns-then-not-is_queue_allowed
returns-then-not-is_queue_allowed c = search (rules, each-stop)

pub loop-k-preserved : goal.loop-k-preserved
loop-k-preserved c = search (rules, each_on)

pub returns : goal.returns
returns c = search (rules, each-end)
