-- The invariant: the bytes so far are alike or not, and the rest decides.
use mathlib.Core.Path.{◌≡◌}
use lib.ListN.{length, drop}
use Rattle.theory.specs.Logic.{◌and◌}
use Rattle.theory.specs.Bytes.{same}
use Rattle.wire.proofs.equal.Given as goal

abbrev pub invariant-loop-x : goal.invariant-loop-x
invariant-loop-x l = same l.a l.b ≡ l.alike and same (drop (length l.yielded) l.a) (drop (length l.yielded) l.b)
