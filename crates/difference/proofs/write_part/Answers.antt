use borrow.Author.Rules.{rules}
use Rattle.difference.proofs.Handed.{placed-inside}
use Rattle.difference.proofs.Writing.{header-room, value_room, value-fits, part-written}
use Rattle.difference.proofs.write_part.Goals as goal

pub write_header-requires : goal.write_header-requires
write_header-requires c = search header-room

pub part_at-value-requires : goal.part_at-value-requires
part_at-value-requires c = search placed-inside

pub copy-requires : goal.copy-requires
copy-requires c = search (rules, value_room)

pub overflow_add-result-2 : goal.overflow_add-result-2
overflow_add-result-2 c = search (rules, value-fits)

pub returns : goal.returns
returns c = search (rules, part-written)
