use Rattle.theory.proofs.Ladder.{ladder, no-not, yes-not}
use Rattle.rules.proofs.is_features.Goals as goal

pub returns-then-t-ne-DEVICE_FEATURES : goal.returns-then-t-ne-DEVICE_FEATURES
returns-then-t-ne-DEVICE_FEATURES c = search (ladder, no-not)

pub returns : goal.returns
returns c = search (ladder, yes-not)
