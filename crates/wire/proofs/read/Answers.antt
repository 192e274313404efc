use mathlib.Core.Path.{◌≡◌, ap}
use Prim.Native.Nat.{◌+◌, ◌-◌}
use native.Mathlib.Nat.{sub-zero}
use native.Mathlib.Omega.{arith}
use lib.ListN.{take, drop}
use Rattle.std.proofs.lemmas.Iterator.Adapters.{YieldsList-from_rev_slice}
use Rattle.std.proofs.lemmas.Iterator.Consumers.{YieldsList-turn, YieldsList-end}
use Rattle.std.proofs.lemmas.List.{length_push, length-reverse}
use Rattle.theory.specs.Bytes.{bytes_at}
use Rattle.theory.proofs.Bytes.{length-bytes_at}
use Rattle.wire.proofs.Loops.{reading-start, reading-room, reading-small, reading-turn, reading-end}
use Rattle.wire.proofs.read.Goals as goal

pub loop-b-init : goal.loop-b-init
loop-b-init c = rw sub-zero (reading-start _ _ _)

pub overflow_mul-r : goal.overflow_mul-r
overflow_mul-r c =
    let e : take (c.args.at + c.args.n - c.args.at) (drop c.args.at c.args.s.now) ≡ bytes_at c.args.at c.args.n c.args.s.now =
    ap (λ k. take k (drop c.args.at c.args.s.now)) (omega arith) in
    let t = YieldsList-turn (YieldsList-from_rev_slice (bytes_at c.args.at c.args.n c.args.s.now) cc) c.loop-b.yielded _ c.loop-b.yielded_by _ _ c.in-Some.b c.in-Some.is c.next.ensures.steps in
    omega (arith, reading-room _ _ _ _ _ _ c.loop-b.invariant (omega arith) t (omega arith))

pub overflow_add-r : goal.overflow_add-r
overflow_add-r c =
    let e : take (c.args.at + c.args.n - c.args.at) (drop c.args.at c.args.s.now) ≡ bytes_at c.args.at c.args.n c.args.s.now =
    ap (λ k. take k (drop c.args.at c.args.s.now)) (omega arith) in
    let t = YieldsList-turn (YieldsList-from_rev_slice (bytes_at c.args.at c.args.n c.args.s.now) cc) c.loop-b.yielded _ c.loop-b.yielded_by _ _ c.in-Some.b c.in-Some.is c.next.ensures.steps in
    omega (arith, reading-room _ _ _ _ _ _ c.loop-b.invariant (omega arith) t (omega arith), reading-small _ _ _ _ _ _ c.loop-b.invariant (omega arith) t (λ i. omega (arith, c.type_inv.s i)))

pub loop-b-preserved : goal.loop-b-preserved
loop-b-preserved c =
    let e : take (c.args.at + c.args.n - c.args.at) (drop c.args.at c.args.s.now) ≡ bytes_at c.args.at c.args.n c.args.s.now =
    ap (λ k. take k (drop c.args.at c.args.s.now)) (omega arith) in
    let t = YieldsList-turn (YieldsList-from_rev_slice (bytes_at c.args.at c.args.n c.args.s.now) cc) c.loop-b.yielded _ c.loop-b.yielded_by _ _ c.in-Some.b c.in-Some.is c.next.ensures.steps in
    rw length_push (reading-turn _ _ _ _ _ _ c.loop-b.invariant (omega arith) t (λ i. omega (arith, c.type_inv.s i)))

pub returns : goal.returns
returns c =
    let e : take (c.args.at + c.args.n - c.args.at) (drop c.args.at c.args.s.now) ≡ bytes_at c.args.at c.args.n c.args.s.now =
    ap (λ k. take k (drop c.args.at c.args.s.now)) (omega arith) in
    let t = YieldsList-end (YieldsList-from_rev_slice (bytes_at c.args.at c.args.n c.args.s.now) cc) c.loop-b.yielded _ c.loop-b.yielded_by _ _ c.in-None.is c.next.ensures.steps in
    reading-end _ _ _ _ _ c.loop-b.invariant (omega (arith, t.1, length-reverse (bytes_at c.args.at c.args.n c.args.s.now), length-bytes_at c.args.at c.args.n c.args.s.now (omega arith)))
