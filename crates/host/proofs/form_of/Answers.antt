use Rattle.std.proofs.Common.{arith}
use Rattle.std.proofs.lemmas.Bool.Decides.{nat_tests}
use Rattle.theory.specs.Logic.{when◌then◌else◌}
use Rattle.host.specs.Reply.{form_of}
use Rattle.host.proofs.form_of.Goals as goal

pub returns-in-0 : goal.returns-in-0
unfolding form_of when◌then◌else◌
returns-in-0 c = grind (arith, nat_tests)

pub returns-in-14 : goal.returns-in-14
unfolding form_of when◌then◌else◌
returns-in-14 c = grind (arith, nat_tests)

pub returns-in-14-2 : goal.returns-in-14-2
unfolding form_of when◌then◌else◌
returns-in-14-2 c = grind (arith, nat_tests)

pub returns-in-15 : goal.returns-in-15
unfolding form_of when◌then◌else◌
returns-in-15 c = grind (arith, nat_tests)

pub returns-in_default : goal.returns-in_default
unfolding form_of when◌then◌else◌
returns-in_default c = grind (arith, nat_tests)
