use borrow.Author.Rules.{rules}
use Rattle.loads.proofs.CallLaws.{lent_none, lent-part, bytes-lent}
use Rattle.loads.proofs.lend.Goals as goal

pub returns-then-is_err : goal.returns-then-is_err
returns-then-is_err c = search (rules, lent_none)

pub returns : goal.returns
returns c = search (rules, lent-part)
