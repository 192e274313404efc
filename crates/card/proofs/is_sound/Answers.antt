-- Each return is a step of `is_sound`.
use borrow.Author.Rules.{rules}
use Rattle.theory.proofs.Ladder.{ladder, said-true}
use Rattle.card.specs.Sound.{is_sound}
use Rattle.card.proofs.ReadLaws.{long-as-said, long-enough}
use Rattle.card.proofs.is_sound.Goals as goal

pub is_length_right-requires : goal.is_length_right-requires
unfolding is_sound
is_length_right-requires c = search rules

pub returns-then-not-is_length_right : goal.returns-then-not-is_length_right
unfolding is_sound
returns-then-not-is_length_right c = search ladder

pub is_setup_sound-requires : goal.is_setup_sound-requires
unfolding is_sound
is_setup_sound-requires c = search (rules, long-enough)

pub returns-then-not-is_setup_sound : goal.returns-then-not-is_setup_sound
unfolding is_sound
returns-then-not-is_setup_sound c = search ladder

pub is_use_supported-requires : goal.is_use_supported-requires
unfolding is_sound
is_use_supported-requires c = search (rules, long-enough)

pub returns-then-not-is_use_supported : goal.returns-then-not-is_use_supported
unfolding is_sound
returns-then-not-is_use_supported c = search ladder

pub are_members_sound-requires : goal.are_members_sound-requires
are_members_sound-requires c = (search (rules, long-as-said), said-true _ _ c.is_setup_sound.ensures c.if-not-is_setup_sound.false-raw)

pub returns : goal.returns
unfolding is_sound
returns c = search ladder
