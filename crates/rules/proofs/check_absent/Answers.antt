use Rattle.theory.proofs.Ladder.{ladder}
use Rattle.rules.specs.PartCauses.{checked, absent_checked}
use Rattle.rules.proofs.check_absent.Goals as goal

pub returns-then-flags-ne1 : goal.returns-then-flags-ne1
unfolding checked absent_checked
returns-then-flags-ne1 c = search ladder

pub returns-then-t-lt-NEVER_SKIPPED : goal.returns-then-t-lt-NEVER_SKIPPED
unfolding checked absent_checked
returns-then-t-lt-NEVER_SKIPPED c = search ladder depth 11

pub returns : goal.returns
unfolding checked absent_checked
returns c = search ladder
