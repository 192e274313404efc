use Rattle.changes.proofs.Steps.{steps}
use Rattle.changes.specs.Changes.{destroy_of}
use Rattle.changes.proofs.destroy.Goals as goal

pub returns-in_default : goal.returns-in_default
unfolding destroy_of
returns-in_default c = search steps

pub returns : goal.returns
unfolding destroy_of
returns c = search steps
