use mathlib.Core.Path.{◌≡◌}
use Prim.Native.Nat.{ℕ, ◌+◌, ◌-◌}
use native.Mathlib.Omega.{arith}
use lib.ListN.{length-set}
use Rattle.theory.proofs.Bytes.{length-bytes_at}
use Rattle.wire.proofs.Le.{length-bytes}
use Rattle.wire.proofs.Loops.{writes-on, written, put_part}
use Rattle.wire.proofs.write.Goals as goal

pub loop-b-preserved : goal.loop-b-preserved
loop-b-preserved c =
    (omega (arith, length-set {A = ℕ}), writes-on _ _ _ _ _ _ c.loop-b.invariant.1 (omega arith))

pub returns : goal.returns
returns c =
    let e : c.args.at + c.args.n - c.args.at ≡ c.args.n = omega arith in
    let l = length-bytes_at c.args.at c.args.n c.args.s.now c.requires in
    rw (e, written _ _ _ _ _ _ c.loop-b.invariant.1 (omega arith) (rw e l)) (put_part _ _ _ _ (length-bytes c.args.n c.args.x) c.requires)
