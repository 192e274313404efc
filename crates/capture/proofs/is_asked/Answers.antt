use Rattle.theory.proofs.Ladder.{ladder}
use Rattle.capture.specs.Capture.{asks}
use Rattle.capture.proofs.is_asked.Goals as goal

pub returns-then-is_present : goal.returns-then-is_present
unfolding asks
returns-then-is_present c = search ladder

pub returns-else-is_present : goal.returns-else-is_present
unfolding asks
returns-else-is_present c = search ladder
