use borrow.Author.Rules.{rules}
use Rattle.card.proofs.WriteLaws.{holding-zeroed}
use Rattle.card.proofs.zero_holding.Goals as goal

pub returns : goal.returns
returns c = search (rules, holding-zeroed)
