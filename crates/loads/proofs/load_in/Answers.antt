use borrow.Author.Rules.{rules}
use Rattle.loads.proofs.PartLaws.{load-none, load-unfit, loaded}
use Rattle.loads.proofs.load_in.Goals as goal

pub returns-then-own-eq0 : goal.returns-then-own-eq0
returns-then-own-eq0 c = search (rules, load-none)

pub returns-then-value-own : goal.returns-then-value-own
returns-then-value-own c = search (rules, load-unfit)

pub returns : goal.returns
returns c = search (rules, loaded)
