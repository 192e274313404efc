-- Each return is a step of `card_bytes`.
use borrow.Author.Rules.{rules}
use Rattle.theory.proofs.Ladder.{ladder}
use Rattle.card.specs.Layout.{card_bytes}
use Rattle.card.proofs.card_bytes.Goals as goal

pub returns-then-members-lt1 : goal.returns-then-members-lt1
unfolding card_bytes
returns-then-members-lt1 c = search ladder

pub overflow_mul-result : goal.overflow_mul-result
unfolding card_bytes
overflow_mul-result c = search rules

pub overflow_add-result : goal.overflow_add-result
unfolding card_bytes
overflow_add-result c = search rules

pub returns-then-members-le-MOST_MEMBERS : goal.returns-then-members-le-MOST_MEMBERS
unfolding card_bytes
returns-then-members-le-MOST_MEMBERS c = search ladder

pub returns : goal.returns
unfolding card_bytes
returns c = search ladder
