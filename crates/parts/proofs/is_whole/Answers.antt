use Rattle.std.proofs.Common.{sym}
use Rattle.parts.specs.List.{whole}
use Rattle.parts.proofs.Reader.{part_given, cut_given}
use Rattle.parts.proofs.is_whole.Goals as goal

pub loop-part-preserved : goal.loop-part-preserved
unfolding whole
loop-part-preserved c = rw (part_given c.in-Some.ensures.steps c.in-Ok.is) at c.loop-part.invariant

pub returns-in-Err : goal.returns-in-Err
unfolding whole
returns-in-Err c = sym (rw (cut_given c.in-Some.ensures.steps c.in-Err.is) at c.loop-part.invariant)

pub returns : goal.returns
unfolding whole
returns c = sym (rw c.in-None.ensures.steps.first.0 at c.loop-part.invariant)
