use Rattle.theory.proofs.Ladder.{ladder}
use Rattle.frame.proofs.fields.padded.Goals as goal

pub returns-then-fixed-d : goal.returns-then-fixed-d
returns-then-fixed-d c = search ladder

pub returns : goal.returns
returns c = search ladder
