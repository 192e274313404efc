use borrow.Author.Rules.{rules}
use Rattle.loads.specs.Loads.{load}
use Rattle.loads.proofs.CallLaws.{call-refused, call-passed, bytes-lent, load-by}
use Rattle.loads.proofs.load.Goals as goal

pub returns-in_err-member_answer : goal.returns-in_err-member_answer
unfolding load
returns-in_err-member_answer c = search (rules, call-refused)

pub returns : goal.returns
unfolding load
returns c = search (rules, call-passed, load-by)
