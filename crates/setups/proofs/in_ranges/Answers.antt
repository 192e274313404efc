-- Each return is a step of `in_ranges`.
use Rattle.theory.proofs.Ladder.{ladder}
use Rattle.setups.specs.Setup.{in_ranges}
use Rattle.setups.proofs.in_ranges.Goals as goal

pub returns-then-members-lt1 : goal.returns-then-members-lt1
unfolding in_ranges
returns-then-members-lt1 c = search ladder

pub returns-then-members-gt16 : goal.returns-then-members-gt16
unfolding in_ranges
returns-then-members-gt16 c = search ladder

pub returns-then-gets-gt8 : goal.returns-then-gets-gt8
unfolding in_ranges
returns-then-gets-gt8 c = search ladder

pub returns : goal.returns
unfolding in_ranges
returns c = search ladder
