use Rattle.theory.proofs.Ladder.{ladder}
use Rattle.frame.proofs.fields.complete.Goals as goal

pub returns-then-d-fixed : goal.returns-then-d-fixed
returns-then-d-fixed c = search ladder

pub returns : goal.returns
returns c = search ladder
