-- The part that comes back is the member's.
use borrow.Author.Rules.{rules}
use Rattle.card.proofs.WriteLaws.{member-saved}
use Rattle.card.proofs.save_member.Goals as goal

pub returns : goal.returns
returns c = search (rules, member-saved)
