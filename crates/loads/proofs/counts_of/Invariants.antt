-- The invariant: to put the counts that are left is to put them all.
use mathlib.Core.Path.{◌≡◌}
use Prim.Native.Nat.{◌+◌, ◌-◌, ◌≤◌}
use lib.ListN.{length}
use Rattle.theory.specs.Bytes.{put}
use Rattle.setups.specs.Setup.{sixteen}
use Rattle.card.specs.Layout.{counts_from}
use Rattle.loads.proofs.counts_of.Given as goal

abbrev pub invariant-loop-i : goal.invariant-loop-i
invariant-loop-i l = (length l.counts ≡ 16) × (sixteen (counts_from l.card 1 l.n) ≡ put l.i (counts_from l.card (l.i + 1) (l.n - l.i)) l.counts)
