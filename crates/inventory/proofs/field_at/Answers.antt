-- Each case is one of the definition's.
use Rattle.theory.specs.Logic.{when◌then◌else◌}
use Rattle.theory.proofs.Ladder.{ladder}
use Rattle.inventory.specs.Worked.{field_at}
use Rattle.inventory.proofs.field_at.Goals as goal

pub returns-in-0 : goal.returns-in-0
unfolding field_at when◌then◌else◌
returns-in-0 c = rw c.in-0.is

pub returns-in-8 : goal.returns-in-8
unfolding field_at when◌then◌else◌
returns-in-8 c = rw c.in-8.is

pub returns-in-16 : goal.returns-in-16
unfolding field_at when◌then◌else◌
returns-in-16 c = rw c.in-16.is

pub returns-in-22 : goal.returns-in-22
unfolding field_at when◌then◌else◌
returns-in-22 c = rw c.in-22.is

pub returns-in_default : goal.returns-in_default
unfolding field_at
returns-in_default c = search ladder
