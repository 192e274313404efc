-- The invariant: to put the counts that are left is to put them all.
use mathlib.Core.Path.{◌≡◌}
use Prim.Native.Nat.{◌+◌, ◌*◌, ◌-◌, ◌≤◌}
use lib.ListN.{length}
use Rattle.theory.specs.Bytes.{put}
use Rattle.setups.specs.Setup.{sixteen}
use Rattle.setups.specs.Reading.{counts_from}
use Rattle.setups.proofs.reader.counts.Given as goal

abbrev pub invariant-loop-i : goal.invariant-loop-i
invariant-loop-i l = (l.at ≤ l.from + 2 * l.i) × (length l.counts ≡ 16)
    × (sixteen (counts_from l.s l.from l.step l.n) ≡ put l.i (counts_from l.s l.at l.step (l.n - l.i)) l.counts)
