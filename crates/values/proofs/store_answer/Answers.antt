use Rattle.theory.proofs.Ladder.{ladder, from-eq, from-ne}
use Rattle.values.specs.Apply.{storable}
use Rattle.inventory.proofs.Places.{row_in, at_row, at_none}
use Rattle.values.proofs.Tests.{row_first, row-later}
use Rattle.values.proofs.store_answer.Goals as goal

pub returns-in_default : goal.returns-in_default
unfolding storable
returns-in_default c = search at_none

pub returns-then-i-eq-FEATURES_ROW : goal.returns-then-i-eq-FEATURES_ROW
unfolding storable
returns-then-i-eq-FEATURES_ROW c = search (ladder, at_row, row_first)

pub size_of-requires : goal.size_of-requires
size_of-requires c = search row_in

pub returns-then-value-size_of : goal.returns-then-value-size_of
unfolding storable
returns-then-value-size_of c = search (ladder, at_row, row-later, from-ne)

pub returns-then-not-is_value_allowed : goal.returns-then-not-is_value_allowed
unfolding storable
returns-then-not-is_value_allowed c = search (ladder, at_row, row-later, from-eq) depth 9

pub returns : goal.returns
unfolding storable
returns c = search (ladder, at_row, row-later, from-eq) depth 9
