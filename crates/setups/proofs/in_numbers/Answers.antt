-- Each return is a step of `in_numbers`.
use borrow.Author.Rules.{rules}
use Rattle.theory.proofs.Ladder.{ladder}
use Rattle.setups.specs.Setup.{in_numbers}
use Rattle.setups.proofs.in_numbers.Goals as goal

pub returns-then-not-in_ranges : goal.returns-then-not-in_ranges
unfolding in_numbers
returns-then-not-in_ranges c = search ladder

pub returns-then-queues-members : goal.returns-then-queues-members
unfolding in_numbers
returns-then-queues-members c = search ladder

pub returns : goal.returns
unfolding in_numbers
returns c = search ladder
