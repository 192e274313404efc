use borrow.Author.Rules.{rules}
use Rattle.theory.proofs.Ladder.{ladder, from-eq, from-ne}
use Rattle.inventory.proofs.Places.{row_in, at_row, at_none}
use Rattle.rules.specs.Rules.{features_same}
use Rattle.salvage.specs.Salvage.{value_right}
use Rattle.salvage.specs.Walk.{taken}
use Rattle.salvage.proofs.Take.{can-count, row-flag, value_room, drop-one, keep_one}
use Rattle.salvage.proofs.take_part.Goals as goal

pub count-requires : goal.count-requires
count-requires c = search (rules, can-count)

pub returns-in_default : goal.returns-in_default
unfolding taken
returns-in_default c = search (rules, at_none, drop-one)

pub bounds-kept-i : goal.bounds-kept-i
bounds-kept-i c = search (rules, row-flag)

pub count-requires-then-kept-i-ne0 : goal.count-requires-then-kept-i-ne0
count-requires-then-kept-i-ne0 c = search (rules, can-count)

pub returns-then-kept-i-ne0 : goal.returns-then-kept-i-ne0
unfolding taken
returns-then-kept-i-ne0 c = search (ladder, rules, at_row, drop-one)

pub size_of-requires : goal.size_of-requires
size_of-requires c = search row_in

pub count-requires-then-value-size_of : goal.count-requires-then-value-size_of
count-requires-then-value-size_of c = search (rules, can-count)

pub returns-then-value-size_of : goal.returns-then-value-size_of
unfolding taken
returns-then-value-size_of c = search (ladder, rules, at_row, from-ne, drop-one)

pub count-requires-then-not-is_value_right : goal.count-requires-then-not-is_value_right
count-requires-then-not-is_value_right c = search (rules, can-count)

pub returns-then-not-is_value_right : goal.returns-then-not-is_value_right
unfolding taken value_right features_same
returns-then-not-is_value_right c = search (ladder, rules, at_row, from-eq, drop-one)

pub bounds-kept-i-2 : goal.bounds-kept-i-2
bounds-kept-i-2 c = row-flag _ _ _ c.requires _ _ _ _ c.place_of.ensures _ c.in-Some.is

pub offset_of-requires : goal.offset_of-requires
offset_of-requires c = search row_in

pub copy-requires : goal.copy-requires
copy-requires c = search (rules, value_room)

pub returns : goal.returns
unfolding taken value_right features_same
returns c = search (ladder, rules, at_row, from-eq, keep_one)
