-- The invariant: the bytes behind those that are still to come are in r.
use Prim.Native.Nat.{◌-◌}
use lib.ListN.{length}
use Rattle.wire.proofs.Loops.{Reading}
use Rattle.wire.proofs.read.Given as goal

abbrev pub invariant-loop-b : goal.invariant-loop-b
invariant-loop-b l = Reading l.s l.at l.n l.r (l.n - length l.yielded)
