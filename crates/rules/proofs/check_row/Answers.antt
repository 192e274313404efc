use borrow.Author.Rules.{rules}
use borrow.Author.Tests.{eq-eqb}
use Rattle.theory.proofs.Ladder.{ladder, pass, said-true, yes-not, no-not}
use Rattle.rules.specs.PartCauses.{checked, row_checked}
use Rattle.rules.proofs.check_row.Goals as goal

pub returns-then-value-size : goal.returns-then-value-size
unfolding checked row_checked
returns-then-value-size c = search ladder depth 11

pub is_value_allowed-requires : goal.is_value_allowed-requires
unfolding checked row_checked
is_value_allowed-requires c = search rules

pub returns-then-not-is_value_allowed : goal.returns-then-not-is_value_allowed
unfolding checked row_checked
returns-then-not-is_value_allowed c = search ladder depth 11

pub is_features-requires : goal.is_features-requires
unfolding checked row_checked
is_features-requires c = search rules

pub returns-then-not-is_features : goal.returns-then-not-is_features
unfolding checked row_checked
returns-then-not-is_features c = search ladder depth 11

pub returns-then-seen : goal.returns-then-seen
unfolding checked row_checked
returns-then-seen c = search (ladder, yes-not) depth 11 fits 4000

pub returns : goal.returns
unfolding checked row_checked
returns c = search (pass, eq-eqb, said-true, no-not) depth 11
