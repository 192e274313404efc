use borrow.Author.Rules.{rules}
use Rattle.theory.proofs.Lent.{tail-is}
use Rattle.admin.proofs.OfRequest.{past_the_end}
use Rattle.admin.proofs.from.Goals as goal

pub returns-then-request-at : goal.returns-then-request-at
returns-then-request-at c = past_the_end _ _ c.if-request-at.true

pub returns : goal.returns
returns c = search (rules, tail-is)
