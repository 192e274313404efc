-- The part lent is the member's.
use borrow.Author.Rules.{rules}
use Rattle.card.proofs.ReadLaws.{member-lent}
use Rattle.card.proofs.member_bytes.Goals as goal

pub returns : goal.returns
returns c = search (rules, member-lent)
