use borrow.Author.Rules.{rules}
use Rattle.loads.specs.Loads.{member_told}
use Rattle.loads.proofs.CallLaws.{call-refused, member-told}
use Rattle.loads.proofs.member.Goals as goal

pub returns-in_err-member_answer : goal.returns-in_err-member_answer
unfolding member_told
returns-in_err-member_answer c = search (rules, call-refused)

pub returns : goal.returns
returns c = search (rules, member-told)
