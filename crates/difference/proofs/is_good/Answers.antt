use Rattle.difference.proofs.is_good.Goals as goal

pub returns : goal.returns
returns c = cc
