use Rattle.theory.specs.Logic.{when◌then◌else◌}
use Rattle.rules.specs.PartCauses.{decided}
use Rattle.rules.proofs.PartCauses.{decided-as}
use Rattle.rules.proofs.decide.Goals as goal

pub returns-in_default : goal.returns-in_default
unfolding decided
returns-in_default c = rw c.in_default.is

pub returns-in_default-cause : goal.returns-in_default-cause
returns-in_default-cause c = rw c.in-Err.is (decided-as c.in-Err.cause _ c.in_default-cause.not-Twice)

pub returns-then-repeats : goal.returns-then-repeats
unfolding decided when◌then◌else◌
returns-then-repeats c = rw (c.in-Err.is, c.in-Twice.is, ← c.if-repeats.ensures)

pub returns : goal.returns
unfolding decided when◌then◌else◌
returns c = rw (c.in-Err.is, c.in-Twice.is, ← c.if-repeats.ensures)
