use Rattle.theory.proofs.Ladder.{ladder}
use Rattle.parts.proofs.Part.is_named.Goals as goal

pub returns-then-self-t : goal.returns-then-self-t
returns-then-self-t c = search ladder

pub returns : goal.returns
returns c = search ladder
