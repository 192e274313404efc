use borrow.Author.Rules.{rules}
use Rattle.difference.proofs.Handed.{look-refused, look-found}
use Rattle.difference.proofs.look_up_in.Goals as goal

pub returns-in_err-verdict_of : goal.returns-in_err-verdict_of
returns-in_err-verdict_of c = search (rules, look-refused)

pub returns : goal.returns
returns c = search (rules, look-found)
