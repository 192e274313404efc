use Rattle.std.proofs.Common.{refl}
use Rattle.reads.specs.Reads.{through_get}
use Rattle.reads.proofs.Steps.{steps, get-left, get-went}
use Rattle.reads.proofs.get_all.Goals as goal

pub returns-in_default : goal.returns-in_default
unfolding through_get
returns-in_default c = search steps

pub returns-in_err-check_get : goal.returns-in_err-check_get
returns-in_err-check_get c =
    get-left _ _ _ c.lookup_in.ensures _ c.in-Some.is _ c.check_get.ensures _ c.in_err-check_get.was _ c.from_residual.ensures.1 _

pub returns : goal.returns
returns c = get-went _ _ _ c.lookup_in.ensures _ c.in-Some.is _ c.check_get.ensures _ c.in_ok-check_get.was _ _ refl
