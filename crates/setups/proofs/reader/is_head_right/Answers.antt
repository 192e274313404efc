-- Each return is a step of `head_right`.
use borrow.Author.Rules.{rules}
use Rattle.theory.proofs.Ladder.{ladder}
use Rattle.setups.specs.Reading.{head_right}
use Rattle.setups.proofs.reader.is_head_right.Goals as goal

pub returns-then-bits-ne0 : goal.returns-then-bits-ne0
unfolding head_right
returns-then-bits-ne0 c = search ladder

pub returns-then-bits-gt8 : goal.returns-then-bits-gt8
unfolding head_right
returns-then-bits-gt8 c = search ladder

pub returns : goal.returns
unfolding head_right
returns c = search ladder
