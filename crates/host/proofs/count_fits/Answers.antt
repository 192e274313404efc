use borrow.Author.Rules.{rules}
use Rattle.host.proofs.Reply.{count-short, count-fits}
use Rattle.host.proofs.count_fits.Goals as goal

pub returns-then-res-lt8 : goal.returns-then-res-lt8
returns-then-res-lt8 c = search (rules, count-short)

pub returns : goal.returns
returns c = search (rules, count-fits)
