-- What is lent is the record and the features.
use borrow.Author.Rules.{rules}
use Rattle.card.proofs.ReadLaws.{place-ids, place-most, place-tested}
use Rattle.card.proofs.sound.is_sound_at.Goals as goal

pub is_sound_record-requires : goal.is_sound_record-requires
is_sound_record-requires c = (search (rules, place-ids), search (rules, place-most))

pub returns : goal.returns
returns c = search (rules, place-tested)
