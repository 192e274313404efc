-- N is the first byte.
use borrow.Author.Rules.{rules}
use Rattle.card.proofs.ReadLaws.{length-short, length-tested}
use Rattle.card.proofs.sound.is_length_right.Goals as goal

pub returns-then-card-lt-CARD_HEADER_SIZE : goal.returns-then-card-lt-CARD_HEADER_SIZE
returns-then-card-lt-CARD_HEADER_SIZE c = search (rules, length-short)

pub returns : goal.returns
returns c = search (rules, length-tested)
