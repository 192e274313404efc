use borrow.Author.Rules.{rules}
use Rattle.staging.specs.Staging.{begin_of}
use Rattle.staging.proofs.Refusals.{member-refused, member-passed, member-record}
use Rattle.staging.proofs.Returns.{already-open, now-open}
use Rattle.staging.proofs.begin.Goals as goal

pub returns-in_err-check_member : goal.returns-in_err-check_member
unfolding begin_of
returns-in_err-check_member c = member-refused _ _ _ c.check_member.ensures _ c.in_err-check_member.was _ c.from_residual.ensures.1 _

pub load_member-x-requires : goal.load_member-x-requires
load_member-x-requires c = member-record _ _ _ c.check_member.ensures _ c.in_ok-check_member.was

pub returns-then-held-ne0 : goal.returns-then-held-ne0
unfolding begin_of
returns-then-held-ne0 c = search (rules, member-passed, already-open)

pub save_member-requires : goal.save_member-requires
save_member-requires c = member-record _ _ _ c.check_member.ensures _ c.in_ok-check_member.was

pub returns : goal.returns
unfolding begin_of
returns c = search (rules, member-passed, now-open)
