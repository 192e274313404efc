use Rattle.theory.proofs.Ladder.{ladder, from-eq, from-ne}
use Rattle.values.specs.Apply.{stored}
use Rattle.inventory.proofs.Places.{row_in, row_room, row_put, at_row, at_none}
use Rattle.values.proofs.Tests.{row_first, row-later}
use Rattle.values.proofs.store_part.Goals as goal

pub returns-in_default : goal.returns-in_default
unfolding stored
returns-in_default c = search at_none

pub returns-then-i-eq-FEATURES_ROW : goal.returns-then-i-eq-FEATURES_ROW
unfolding stored
returns-then-i-eq-FEATURES_ROW c = search (ladder, at_row, row_first)

pub size_of-requires : goal.size_of-requires
size_of-requires c = search row_in

pub returns-then-value-size_of : goal.returns-then-value-size_of
unfolding stored
returns-then-value-size_of c = search (ladder, at_row, from-ne)

pub offset_of-requires : goal.offset_of-requires
offset_of-requires c = search row_in

pub copy-requires : goal.copy-requires
copy-requires c = search row_room

pub returns : goal.returns
unfolding stored
returns c = search (ladder, at_row, row-later, from-eq, row_put)
