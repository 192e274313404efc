-- The three numbers are the first three bytes.
use borrow.Author.Rules.{rules}
use Rattle.card.proofs.ReadLaws.{numbers-tested}
use Rattle.card.proofs.sound.is_setup_sound.Goals as goal

pub returns : goal.returns
returns c = search (rules, numbers-tested)
