use Rattle.std.proofs.Common.{sym}
use Rattle.theory.proofs.Tests.{true-and, false-and}
use Rattle.parts.proofs.Reader.{part_given, cut_given}
use Rattle.rules.specs.Rules.{every, asks_known}
use Rattle.rules.proofs.every_known.Goals as goal

pub loop-header-preserved : goal.loop-header-preserved
unfolding every asks_known
loop-header-preserved c =
    rw (part_given c.in-Some.ensures.steps c.in-Ok.is, ← c.is_known.ensures, c.if-not-is_known.false, true-and) at c.loop-header.invariant

pub returns-in_default : goal.returns-in_default
unfolding every
returns-in_default c = sym (rw (cut_given c.in-Some.ensures.steps c.in_default.is) at c.loop-header.invariant)

pub returns-then-not-is_known : goal.returns-then-not-is_known
unfolding every asks_known
returns-then-not-is_known c =
    sym (rw (part_given c.in-Some.ensures.steps c.in-Ok.is, ← c.is_known.ensures, c.if-not-is_known.true, false-and) at c.loop-header.invariant)

pub returns : goal.returns
unfolding every
returns c = sym (rw c.in-None.ensures.steps.first.0 at c.loop-header.invariant)
