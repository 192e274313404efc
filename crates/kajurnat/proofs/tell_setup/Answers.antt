use borrow.Author.Rules.{rules}
use Rattle.std.proofs.Common.{inl, inr}
use Rattle.kajurnat.specs.SetupTold.{setup_told}
use Rattle.kajurnat.proofs.SetupTold.{unfit, setup-told}
use Rattle.kajurnat.proofs.tell_setup.Goals as goal

pub returns-in-Err : goal.returns-in-Err
unfolding setup_told
returns-in-Err c = rw c.in-Err.is (search rules)

pub returns-then-queues-ne-MOST_MEMBERS : goal.returns-then-queues-ne-MOST_MEMBERS
returns-then-queues-ne-MOST_MEMBERS c = rw c.in-Ok.is (search (rules, unfit, inl))

pub returns-then-features-ne-FEATURES_SIZE : goal.returns-then-features-ne-FEATURES_SIZE
returns-then-features-ne-FEATURES_SIZE c = rw c.in-Ok.is (search (rules, unfit, inr))

pub returns : goal.returns
returns c = rw c.in-Ok.is (search (rules, setup-told))
