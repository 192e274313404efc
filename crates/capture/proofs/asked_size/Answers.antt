use Rattle.theory.proofs.Ladder.{ladder}
use Rattle.capture.proofs.asked_size.Goals as goal

pub returns-then-not-is_asked : goal.returns-then-not-is_asked
returns-then-not-is_asked c = search ladder

pub returns : goal.returns
returns c = search ladder
