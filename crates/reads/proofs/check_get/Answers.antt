use Rattle.reads.proofs.Steps.{steps}
use Rattle.reads.proofs.check_get.Goals as goal

pub returns-in_default : goal.returns-in_default
returns-in_default c = search steps

pub returns : goal.returns
returns c = search steps
