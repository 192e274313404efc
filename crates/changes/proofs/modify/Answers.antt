use Rattle.changes.proofs.Steps.{steps}
use Rattle.changes.specs.Changes.{modify_of}
use Rattle.changes.proofs.modify.Goals as goal

pub returns-in_default : goal.returns-in_default
unfolding modify_of
returns-in_default c = search steps

pub returns : goal.returns
unfolding modify_of
returns c = search steps
