use borrow.Author.Rules.{rules}
use Rattle.frame.proofs.Steps.{kind-set}
use Rattle.frame.proofs.fields.kind_in.Goals as goal

pub returns-else-b-eq0 : goal.returns-else-b-eq0
returns-else-b-eq0 c = search (rules, kind-set)
