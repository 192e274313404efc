use Rattle.theory.proofs.Ladder.{ladder}
use Rattle.changes.specs.Changes.{limited}
use Rattle.changes.proofs.put.Goals as goal

pub returns-then-not-has_room : goal.returns-then-not-has_room
unfolding limited
returns-then-not-has_room c = rw (← c.with_object-n.ensures) (search ladder)

pub returns : goal.returns
unfolding limited
returns c = rw (← c.with_object-n.ensures) (search ladder)
