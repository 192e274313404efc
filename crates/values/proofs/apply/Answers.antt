use Rattle.std.proofs.Common.{sym, rules}
use Rattle.parts.proofs.Reader.{part_given, cut_given}
use Rattle.values.specs.Apply.{applied}
use Rattle.values.proofs.apply.Goals as goal

pub returns-in_default : goal.returns-in_default
unfolding applied
returns-in_default c = sym (rw (cut_given c.in-Some.ensures.steps c.in_default.is) at c.loop-part.invariant.1)

pub loop-part-preserved : goal.loop-part-preserved
unfolding applied
loop-part-preserved c =
    (search rules, rw c.store_part.ensures (rw (part_given c.in-Some.ensures.steps c.in-Ok.is) at c.loop-part.invariant.1))

pub returns : goal.returns
unfolding applied
returns c = sym (rw c.in-None.ensures.steps.first.0 at c.loop-part.invariant.1)
