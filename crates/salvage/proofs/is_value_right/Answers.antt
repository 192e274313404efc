use borrow.Author.Rules.{rules}
use Rattle.theory.proofs.Ladder.{ladder, no-not, yes-not}
use Rattle.rules.specs.Rules.{features_same}
use Rattle.salvage.specs.Salvage.{value_right}
use Rattle.salvage.proofs.is_value_right.Goals as goal

pub is_value_allowed-requires : goal.is_value_allowed-requires
unfolding value_right features_same
is_value_allowed-requires c = search rules

pub returns-then-not-is_value_allowed : goal.returns-then-not-is_value_allowed
unfolding value_right features_same
returns-then-not-is_value_allowed c = search ladder

pub returns-then-t-ne-DEVICE_FEATURES : goal.returns-then-t-ne-DEVICE_FEATURES
unfolding value_right features_same
returns-then-t-ne-DEVICE_FEATURES c = search (ladder, no-not)

pub equal-requires : goal.equal-requires
unfolding value_right features_same
equal-requires c = search rules

pub returns : goal.returns
unfolding value_right features_same
returns c = search (ladder, yes-not)
