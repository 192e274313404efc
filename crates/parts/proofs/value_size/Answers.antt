use Rattle.parts.proofs.value_size.Goals as goal

pub returns-in-Parts : goal.returns-in-Parts
returns-in-Parts c = cc
