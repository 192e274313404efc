use Rattle.difference.proofs.Handed.{handed-as}
use Rattle.difference.proofs.Under.{under-inside}
use Rattle.difference.proofs.find.Goals as goal

pub part_at-requires : goal.part_at-requires
part_at-requires c = search under-inside

pub returns : goal.returns
returns c = search handed-as
