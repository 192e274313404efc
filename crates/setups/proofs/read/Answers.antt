-- Each return is a step of `read_setup`.
use Rattle.theory.proofs.Ladder.{ladder}
use Rattle.setups.specs.Reading.{read_setup}
use Rattle.setups.proofs.read.Goals as goal

pub returns-then-bits-eq2 : goal.returns-then-bits-eq2
unfolding read_setup
returns-then-bits-eq2 c = search ladder

pub returns : goal.returns
unfolding read_setup
returns c = search ladder
