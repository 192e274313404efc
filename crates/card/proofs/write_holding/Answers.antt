use borrow.Author.Rules.{rules}
use Rattle.card.proofs.WriteLaws.{holding-written}
use Rattle.card.proofs.write_holding.Goals as goal

pub returns : goal.returns
returns c = search (rules, holding-written)
