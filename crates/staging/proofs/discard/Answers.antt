use borrow.Author.Rules.{rules}
use Rattle.staging.specs.Staging.{drop_of}
use Rattle.staging.proofs.Refusals.{open-refused, open-record}
use Rattle.staging.proofs.Returns.{dropped}
use Rattle.staging.proofs.discard.Goals as goal

pub returns-in_err-check_open : goal.returns-in_err-check_open
unfolding drop_of
returns-in_err-check_open c = open-refused _ _ _ c.check_open.ensures _ c.in_err-check_open.was _ c.from_residual.ensures.1 _

pub load_member-requires : goal.load_member-requires
load_member-requires c = open-record _ _ _ c.check_open.ensures _ c.in_ok-check_open.was

pub end-requires : goal.end-requires
end-requires c = open-record _ _ _ c.check_open.ensures _ c.in_ok-check_open.was

pub returns : goal.returns
returns c = search (rules, dropped)
