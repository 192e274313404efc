-- Each return is a step of `written`.
use borrow.Author.Rules.{rules}
use Rattle.theory.proofs.Ladder.{ladder}
use Rattle.setups.specs.Writing.{written}
use Rattle.setups.proofs.Writing.{numbers-told, too_short, all-written}
use Rattle.setups.proofs.write.Goals as goal

pub returns-then-not-in_numbers : goal.returns-then-not-in_numbers
unfolding written
returns-then-not-in_numbers c = search ladder

pub returns-then-features-ne-FEATURES_SIZE : goal.returns-then-features-ne-FEATURES_SIZE
unfolding written
returns-then-features-ne-FEATURES_SIZE c = search ladder

pub front_of-f-requires : goal.front_of-f-requires
front_of-f-requires c = search (rules, numbers-told)

pub returns-then-out-n : goal.returns-then-out-n
returns-then-out-n c = search (rules, too_short)

pub returns : goal.returns
returns c = search (rules, all-written)
