use borrow.Author.Rules.{rules}
use Rattle.inventory.proofs.Places.{row_in}
use Rattle.loads.proofs.PartLaws.{part_none, part-fits, part-ends, part-found}
use Rattle.loads.proofs.part_in.Goals as goal

pub returns-in_default : goal.returns-in_default
returns-in_default c = search (rules, part_none)

pub offset_of-from-requires : goal.offset_of-from-requires
offset_of-from-requires c = search row_in

pub size_of-requires : goal.size_of-requires
size_of-requires c = search row_in

pub overflow_add-result : goal.overflow_add-result
overflow_add-result c = search part-fits

pub slice_bounds-result-end-2 : goal.slice_bounds-result-end-2
slice_bounds-result-end-2 c = search (rules, part-ends)

pub returns : goal.returns
returns c = search (rules, part-found)
