-- Each return is a step of `read_version1`.
use Rattle.theory.proofs.Ladder.{ladder}
use Rattle.setups.specs.Reading.{read_version1}
use Rattle.setups.proofs.read_version_1.Goals as goal

pub returns-then-bits-eq2 : goal.returns-then-bits-eq2
unfolding read_version1
returns-then-bits-eq2 c = search ladder

pub returns : goal.returns
unfolding read_version1
returns c = search ladder
