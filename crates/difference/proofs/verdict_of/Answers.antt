use borrow.Author.Rules.{rules}
use borrow.Author.Tests.{not-true, not-false}
use Rattle.theory.proofs.Ladder.{pass, stop, said-true, said-false}
use Rattle.difference.specs.Difference.{verdict_of}
use Rattle.difference.proofs.verdict_of.Goals as goal

ruleset steps = (pass, stop, said-true, said-false, not-true, not-false)

pub is_good-requires : goal.is_good-requires
unfolding verdict_of
is_good-requires c = search rules

pub returns-then-not-is_good : goal.returns-then-not-is_good
unfolding verdict_of
returns-then-not-is_good c = search steps

pub is_good-requires-2 : goal.is_good-requires-2
unfolding verdict_of
is_good-requires-2 c = search rules

pub returns-then-not-is_good-2 : goal.returns-then-not-is_good-2
unfolding verdict_of
returns-then-not-is_good-2 c = search steps

pub is_full-requires : goal.is_full-requires
unfolding verdict_of
is_full-requires c = search rules

pub returns-then-not-is_full : goal.returns-then-not-is_full
unfolding verdict_of
returns-then-not-is_full c = search steps depth 9

pub returns-then-not-asked : goal.returns-then-not-asked
unfolding verdict_of
returns-then-not-asked c = search steps depth 9

pub returns-then-not-room : goal.returns-then-not-room
unfolding verdict_of
returns-then-not-room c = search steps depth 9

pub returns : goal.returns
unfolding verdict_of
returns c = search steps depth 9
