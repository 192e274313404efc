use Rattle.std.proofs.Common.{sym}
use Rattle.theory.proofs.Tests.{true-or, false-or}
use Rattle.parts.specs.List.{among}
use Rattle.parts.proofs.Reader.{part_given, cut_given}
use Rattle.parts.proofs.contains.Goals as goal

pub loop-part-preserved : goal.loop-part-preserved
unfolding among
loop-part-preserved c =
    rw (part_given c.in-Some.ensures.steps c.in-Ok.is, ← c.is_named.ensures, c.if-is_named.false, false-or) at c.loop-part.invariant

pub returns-in_default : goal.returns-in_default
unfolding among
returns-in_default c = sym (rw (cut_given c.in-Some.ensures.steps c.in_default.is) at c.loop-part.invariant)

pub returns-then-is_named : goal.returns-then-is_named
unfolding among
returns-then-is_named c =
    sym (rw (part_given c.in-Some.ensures.steps c.in-Ok.is, ← c.is_named.ensures, c.if-is_named.true, true-or) at c.loop-part.invariant)

pub returns : goal.returns
unfolding among
returns c = sym (rw c.in-None.ensures.steps.first.0 at c.loop-part.invariant)
