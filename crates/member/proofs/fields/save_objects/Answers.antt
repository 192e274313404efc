use Rattle.member.proofs.fields.save_objects.Goals as goal

pub returns : goal.returns
returns c = cc
