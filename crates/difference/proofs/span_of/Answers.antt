use Rattle.std.proofs.Common.{sym}
use Rattle.theory.specs.Logic.{when◌then◌else◌}
use Rattle.parts.proofs.Reader.{part_given, moves_given, cut_given}
use Rattle.difference.specs.Difference.{span_from}
use Rattle.difference.proofs.Places.{span-on}
use Rattle.difference.proofs.span_of.Goals as goal

pub returns-in_default : goal.returns-in_default
unfolding span_from
returns-in_default c = sym (rw (cut_given c.in-Some.ensures.steps c.in_default.is) at c.loop-part.invariant)

pub returns-then-is_named : goal.returns-then-is_named
unfolding span_from when◌then◌else◌
returns-then-is_named c =
    let m = moves_given c.in-Some.ensures.steps c.in-Ok.is in
    rw m.0
    (sym (rw (part_given c.in-Some.ensures.steps c.in-Ok.is, ← c.is_named.ensures, c.if-is_named.true) at c.loop-part.invariant))

pub loop-part-preserved : goal.loop-part-preserved
loop-part-preserved c =
    let m = moves_given c.in-Some.ensures.steps c.in-Ok.is in
    span-on _ _ _ _ _ _ _ _ _ c.loop-part.invariant (part_given c.in-Some.ensures.steps c.in-Ok.is) c.if-is_named.ensures m.0 m.1

pub returns : goal.returns
unfolding span_from
returns c = sym (rw c.in-None.ensures.steps.first.0 at c.loop-part.invariant)
