-- The two tests are the two ends.
use borrow.Author.Rules.{rules}
use Rattle.theory.proofs.Ladder.{ladder}
use Rattle.card.proofs.ReadLaws.{member-high}
use Rattle.card.proofs.is_member.Goals as goal

pub returns-then-m-lt1 : goal.returns-then-m-lt1
returns-then-m-lt1 c = search ladder

pub returns : goal.returns
returns c = search (rules, member-high)
