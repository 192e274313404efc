use mathlib.Core.Path.{refl}
use borrow.Author.Rules.{rules}
use Rattle.card.proofs.ReadLaws.{few-ids, window-most}
use Rattle.card.proofs.sound.are_members_sound.Goals as goal

pub overflow_sub-other : goal.overflow_sub-other
overflow_sub-other c = search (rules, few-ids)

pub is_each_sound-requires : goal.is_each_sound-requires
is_each_sound-requires c = let gets = c.wide.result in
    let sets = c.wide-2.result in
    (search rules, window-most _ gets sets (search rules) (search rules) (search rules) _ c.part.result.now refl c.part.ensures)
