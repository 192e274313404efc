-- The invariant: to put the bytes that are left is to put them all.
use mathlib.Core.Path.{◌≡◌}
use Prim.Native.Nat.{◌-◌}
use lib.ListN.{length}
use Rattle.theory.specs.Bytes.{put}
use Rattle.wire.specs.Le.{bytes}
use Rattle.wire.proofs.write.Given as goal

abbrev pub invariant-loop-b : goal.invariant-loop-b
invariant-loop-b l = (length l.b-items ≡ l.n) × (put 0 (bytes l.n l.x) l.initial.b-items ≡ put l.b-index (bytes (l.n - l.b-index) l.v) l.b-items)
