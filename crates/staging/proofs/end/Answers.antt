use Rattle.staging.proofs.end.Goals as goal

pub returns : goal.returns
returns c = cc
