use borrow.Author.Rules.{rules}
use Rattle.staging.proofs.Refusals.{member-record, member-first, not-begun, is-begun}
use Rattle.staging.proofs.check_open.Goals as goal

pub returns-in_err-check_member : goal.returns-in_err-check_member
returns-in_err-check_member c = member-first _ _ _ c.check_member.ensures _ c.in_err-check_member.was _ c.from_residual.ensures.1

pub load_member-x-requires : goal.load_member-x-requires
load_member-x-requires c = member-record _ _ _ c.check_member.ensures _ c.in_ok-check_member.was

pub returns-then-held-eq0 : goal.returns-then-held-eq0
returns-then-held-eq0 c = search (rules, not-begun)

pub returns : goal.returns
returns c = search (rules, is-begun)
