use borrow.Author.Rules.{rules}
use Rattle.theory.proofs.Ladder.{ladder}
use Rattle.inventory.specs.Queue.{value_allowed}
use Rattle.inventory.proofs.Queue.{value_read}
use Rattle.inventory.proofs.is_value_allowed.Goals as goal

pub returns-then-t-ne-QUEUE : goal.returns-then-t-ne-QUEUE
unfolding value_allowed
returns-then-t-ne-QUEUE c = search ladder

pub returns-then-value-ne-QUEUE_SIZE : goal.returns-then-value-ne-QUEUE_SIZE
unfolding value_allowed
returns-then-value-ne-QUEUE_SIZE c = search ladder

pub is_queue_allowed-requires : goal.is_queue_allowed-requires
unfolding value_allowed
is_queue_allowed-requires c = search rules

pub returns : goal.returns
unfolding value_allowed
returns c = search (ladder, value_read)
