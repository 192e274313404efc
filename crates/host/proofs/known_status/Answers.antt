use Rattle.std.proofs.Common.{arith}
use Rattle.std.proofs.lemmas.Bool.Decides.{nat_tests}
use Rattle.theory.specs.Logic.{◌or◌}
use Rattle.host.specs.Reply.{known_status}
use Rattle.host.proofs.known_status.Goals as goal

pub returns-in_default : goal.returns-in_default
unfolding known_status ◌or◌
returns-in_default c = grind (arith, nat_tests)

pub returns-in_default-2 : goal.returns-in_default-2
unfolding known_status ◌or◌
returns-in_default-2 c = grind (arith, nat_tests)

pub returns-in-0 : goal.returns-in-0
unfolding known_status ◌or◌
returns-in-0 c = grind (arith, nat_tests)

pub returns-in-0-2 : goal.returns-in-0-2
unfolding known_status ◌or◌
returns-in-0-2 c = grind (arith, nat_tests)
