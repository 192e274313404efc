use Rattle.theory.proofs.Ladder.{ladder}
use Rattle.reads.specs.Reads.{through_get, selected_of}
use Rattle.reads.proofs.Steps.{steps, get-left, get-went}
use Rattle.reads.proofs.get_selected.Goals as goal

pub returns-in_default : goal.returns-in_default
unfolding through_get
returns-in_default c = search steps

pub returns-in_err-check_get : goal.returns-in_err-check_get
returns-in_err-check_get c =
    get-left _ _ _ c.lookup_in.ensures _ c.in-Some.is _ c.check_get.ensures _ c.in_err-check_get.was _ c.from_residual.ensures.1 _

pub returns-then-not-check_asked : goal.returns-then-not-check_asked
unfolding selected_of
returns-then-not-check_asked c =
    get-went _ _ _ c.lookup_in.ensures _ c.in-Some.is _ c.check_get.ensures _ c.in_ok-check_get.was _ _ (search ladder)

pub returns : goal.returns
unfolding selected_of
returns c =
    get-went _ _ _ c.lookup_in.ensures _ c.in-Some.is _ c.check_get.ensures _ c.in_ok-check_get.was _ _ (search ladder)
