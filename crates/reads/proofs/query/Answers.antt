use Rattle.reads.specs.Reads.{query_of}
use Rattle.reads.proofs.Steps.{steps}
use Rattle.reads.proofs.query.Goals as goal

pub returns-in_default : goal.returns-in_default
unfolding query_of
returns-in_default c = search steps

pub returns : goal.returns
unfolding query_of
returns c = search steps
