use Rattle.std.proofs.Common.{sym}
use Rattle.theory.proofs.Tests.{true-and, false-and, true-or, false-or}
use Rattle.parts.specs.List.{among}
use Rattle.parts.proofs.Reader.{part_given, cut_given}
use Rattle.rules.specs.Rules.{repeated}
use Rattle.rules.proofs.repeats.Goals as goal

pub returns-in_default : goal.returns-in_default
unfolding repeated
returns-in_default c = sym (rw c.in_default.ensures.steps.first.0 at c.parts.invariant)

pub returns-in_default-part : goal.returns-in_default-part
unfolding repeated
returns-in_default-part c = sym (rw (cut_given c.in-Some.ensures.steps c.in_default-part.is) at c.parts.invariant)

pub parts-preserved-then-not-is_known : goal.parts-preserved-then-not-is_known
unfolding repeated
parts-preserved-then-not-is_known c =
    rw (part_given c.in-Some.ensures.steps c.in-Ok.is, ← c.is_known.ensures, c.if-not-is_known.true, false-and, false-or)
    at c.parts.invariant

pub rest-init : goal.rest-init
unfolding repeated
rest-init c =
    rw c.into_iter-other-iterator.ensures.into_iter_gives (rw (part_given c.in-Some.ensures.steps c.in-Ok.is, ← c.is_known.ensures, c.if-not-is_known.false, true-and)
    at c.parts.invariant)

pub parts-preserved-in-None : goal.parts-preserved-in-None
unfolding among
parts-preserved-in-None c = rw (c.in-None.ensures.steps.first.0, false-or) at c.rest.invariant

pub parts-preserved : goal.parts-preserved
unfolding among
parts-preserved c = rw (cut_given c.in-Some-other.ensures.steps c.in_default-other.is, false-or) at c.rest.invariant

pub rest-preserved : goal.rest-preserved
unfolding among
rest-preserved c =
    rw (part_given c.in-Some-other.ensures.steps c.in-Ok-other.is, ← c.is_named.ensures, c.if-is_named.false, false-or) at c.rest.invariant

pub returns : goal.returns
unfolding among
returns c =
    sym (rw (part_given c.in-Some-other.ensures.steps c.in-Ok-other.is, ← c.is_named.ensures, c.if-is_named.true, true-or, true-or) at c.rest.invariant)
