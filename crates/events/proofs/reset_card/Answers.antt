-- Each return is a step of `reset_card`.
use Rattle.theory.proofs.Ladder.{ladder}
use Rattle.events.specs.Events.{reset_card}
use Rattle.events.proofs.EventLaws.{told, card-reset}
use Rattle.events.proofs.reset_card.Goals as goal

pub returns-then-not-is_sound : goal.returns-then-not-is_sound
unfolding reset_card
returns-then-not-is_sound c = search ladder

pub setup_of-s-requires : goal.setup_of-s-requires
unfolding reset_card
setup_of-s-requires c = search told

pub rewrite-requires : goal.rewrite-requires
unfolding reset_card
rewrite-requires c = search told

pub returns : goal.returns
unfolding reset_card
returns c = search (ladder, card-reset)
