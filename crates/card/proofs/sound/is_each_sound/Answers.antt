use borrow.Author.Rules.{rules}
use Rattle.card.proofs.ReadLaws.{checked-start, step_back, step-head, step_fits, checked-stop, checked-on, checked-end}
use Rattle.card.proofs.sound.is_each_sound.Goals as goal

pub loop-m-init : goal.loop-m-init
loop-m-init c = search (rules, checked-start)

pub overflow_sub-at : goal.overflow_sub-at
overflow_sub-at c = search (rules, step_back)

pub is_sound_at-requires : goal.is_sound_at-requires
is_sound_at-requires c = (search (rules, step-head), search (rules, step_fits), search rules)

pub returns-then-not-is_sound_at : goal.returns-then-not-is_sound_at
returns-then-not-is_sound_at c = search (rules, checked-stop)

pub loop-m-preserved : goal.loop-m-preserved
loop-m-preserved c = search (rules, checked-on)

pub returns : goal.returns
returns c = search (rules, checked-end)
