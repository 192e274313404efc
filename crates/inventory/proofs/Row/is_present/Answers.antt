-- Its tests are those of the definition, in the same order.
use Rattle.theory.proofs.Ladder.{ladder}
use Rattle.inventory.specs.Inventory.{present}
use Rattle.inventory.proofs.Row.is_present.Goals as goal

pub returns-then-self-lt-QUEUE : goal.returns-then-self-lt-QUEUE
unfolding present
returns-then-self-lt-QUEUE c = search ladder

pub returns : goal.returns
unfolding present
returns c = search ladder
