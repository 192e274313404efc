use Rattle.theory.proofs.Ladder.{ladder}
use Rattle.frame.proofs.fields.id_in.Goals as goal

pub returns-then-not-object_valid : goal.returns-then-not-object_valid
returns-then-not-object_valid c = search ladder

pub returns : goal.returns
returns c = search ladder
