use Rattle.changes.proofs.Steps.{steps}
use Rattle.changes.specs.Changes.{create_of}
use Rattle.changes.proofs.create.Goals as goal

pub returns-in_default : goal.returns-in_default
unfolding create_of
returns-in_default c = search steps

pub returns : goal.returns
unfolding create_of
returns c = search steps
