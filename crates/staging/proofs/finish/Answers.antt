use borrow.Author.Rules.{rules}
use Rattle.staging.specs.Staging.{finish_of}
use Rattle.staging.proofs.Refusals.{open-refused, open-sound, open-member, open-record}
use Rattle.staging.proofs.Returns.{held-some, held-room, finished-with, finished-refused}
use Rattle.staging.proofs.finish.Goals as goal

pub returns-in_err-check_open : goal.returns-in_err-check_open
unfolding finish_of
returns-in_err-check_open c = open-refused _ _ _ c.check_open.ensures _ c.in_err-check_open.was _ c.from_residual.ensures.1 _

pub load_member-before-requires : goal.load_member-before-requires
load_member-before-requires c = open-record _ _ _ c.check_open.ensures _ c.in_ok-check_open.was

pub overflow_sub-held : goal.overflow_sub-held
overflow_sub-held c = held-some _ _ _ c.check_open.ensures _ c.in_ok-check_open.was _ c.load_member-before.ensures

pub set_held-requires : goal.set_held-requires
set_held-requires c = (open-sound _ _ _ c.check_open.ensures _ c.in_ok-check_open.was, open-member _ _ _ c.check_open.ensures _ c.in_ok-check_open.was, held-room _ _ _ c.check_open.ensures _ c.in_ok-check_open.was _ c.load_member-before.ensures)

pub end-requires : goal.end-requires
end-requires c = open-record _ _ _ c.check_open.ensures _ c.in_ok-check_open.was

pub end-requires-in-Err : goal.end-requires-in-Err
end-requires-in-Err c = open-record _ _ _ c.check_open.ensures _ c.in_ok-check_open.was

pub returns-in-Ok : goal.returns-in-Ok
returns-in-Ok c =
    finished-with _ _ _ c.check_open.ensures _ c.in_ok-check_open.was _ c.load_member-before.ensures
    _ (search rules) _ c.set_held.ensures _ _ c.in-Ok.is c.end.ensures

pub returns-in-Err : goal.returns-in-Err
returns-in-Err c =
    finished-refused _ _ _ c.check_open.ensures _ c.in_ok-check_open.was _ c.load_member-before.ensures
    _ (search rules) _ c.set_held.ensures _ _ c.in-Err.is c.end-in-Err.ensures
