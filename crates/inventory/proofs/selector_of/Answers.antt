-- Its tests are those of the definition, in the same order.
use Rattle.theory.proofs.Ladder.{ladder}
use Rattle.inventory.specs.Inventory.{selector_of}
use Rattle.inventory.proofs.selector_of.Goals as goal

pub returns-then-t-eq-PCI_COMMON : goal.returns-then-t-eq-PCI_COMMON
unfolding selector_of
returns-then-t-eq-PCI_COMMON c = search ladder

pub returns-then-t-eq-QUEUE : goal.returns-then-t-eq-QUEUE
unfolding selector_of
returns-then-t-eq-QUEUE c = search ladder

pub returns-then-t-eq-QUEUE_NOTIFY : goal.returns-then-t-eq-QUEUE_NOTIFY
unfolding selector_of
returns-then-t-eq-QUEUE_NOTIFY c = search ladder

pub returns : goal.returns
unfolding selector_of
returns c = search ladder
