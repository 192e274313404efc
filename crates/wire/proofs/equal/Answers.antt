use mathlib.Core.Path.{sym}
use native.Mathlib.Omega.{arith}
use Rattle.std.proofs.lemmas.Slice.Zip.{zip_turn, zip_end}
use Rattle.std.proofs.lemmas.List.{length_push}
use Rattle.theory.proofs.Tests.{same-other-length}
use Rattle.wire.proofs.Loops.{compares-start, compares-on, compared}
use Rattle.wire.proofs.equal.Goals as goal

pub returns-then-a-b : goal.returns-then-a-b
returns-then-a-b c = sym (same-other-length _ _ c.if-a-b.true)

pub loop-x-init : goal.loop-x-init
loop-x-init c = compares-start _ _

pub loop-x-preserved : goal.loop-x-preserved
loop-x-preserved c =
    let t = zip_turn c.args.a.now c.args.b.now c.loop-x.yielded c.into_iter-x-iterator.result c.loop-x.x-iterator c.next.new.self c.next.result (cc) (cc) c.loop-x.yielded_by (c.in-Some.x, c.in-Some.y) c.in-Some.is c.next.ensures.steps in
    rw length_push (compares-on _ _ _ _ c.if-a-b.false c.loop-x.invariant _ t.0 (rw (t.2 0, t.3 0)))

pub returns : goal.returns
returns c =
    let e = zip_end c.args.a.now c.args.b.now c.loop-x.yielded c.into_iter-x-iterator.result c.loop-x.x-iterator c.next.new.self c.next.result (cc) (cc) c.loop-x.yielded_by c.in-None.is c.next.ensures.steps in
    compared _ _ _ _ c.if-a-b.false c.loop-x.invariant (omega arith)
