use borrow.Author.Rules.{rules}
use Rattle.staging.specs.Staging.{feed_of}
use Rattle.staging.proofs.Refusals.{open-refused, open-record}
use Rattle.staging.proofs.Returns.{held-some, held-room, held_fits, fed-over, fed-in}
use Rattle.staging.proofs.feed.Goals as goal

pub returns-in_err-check_open : goal.returns-in_err-check_open
unfolding feed_of
returns-in_err-check_open c = open-refused _ _ _ c.check_open.ensures _ c.in_err-check_open.was _ c.from_residual.ensures.1 _

pub load_member-x-requires : goal.load_member-x-requires
load_member-x-requires c = open-record _ _ _ c.check_open.ensures _ c.in_ok-check_open.was

pub overflow_sub-from : goal.overflow_sub-from
overflow_sub-from c = held-some _ _ _ c.check_open.ensures _ c.in_ok-check_open.was _ c.load_member-x.ensures

pub overflow_sub-from-2 : goal.overflow_sub-from-2
overflow_sub-from-2 c = held-room _ _ _ c.check_open.ensures _ c.in_ok-check_open.was _ c.load_member-x.ensures

pub end-requires : goal.end-requires
end-requires c = open-record _ _ _ c.check_open.ensures _ c.in_ok-check_open.was

pub returns-then-from-fragment : goal.returns-then-from-fragment
returns-then-from-fragment c = search (rules, fed-over)

pub hold-requires : goal.hold-requires
hold-requires c = (open-record _ _ _ c.check_open.ensures _ c.in_ok-check_open.was, search (rules, held_fits))

pub returns : goal.returns
returns c = search (rules, fed-in)
