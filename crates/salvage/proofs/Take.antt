-- One part of the walk: what the code asks of what is lent, and the parts that are dropped or kept as the definition has
-- them. Assumes nothing.
use mathlib.Core.Path.{◌≡◌}
use mathlib.Core.List.{List}
use Prim.Native.Nat.{ℕ, ◌+◌, ◌<◌, ◌≤◌}
use native.Mathlib.Omega.{arith}
use lib.Dec.{T, ltb, ltb→lt}
use lib.ListN.{length, set}
use Rattle.std.specs.Prelude.{Option, Some}
use Rattle.theory.specs.Bytes.{put}
use Rattle.inventory.specs.Inventory.{row_at, offset_of, place_of}
use Rattle.inventory.proofs.Places.{row_in, row_room}
use Rattle.parts.specs.List.{longest_list}
use Rattle.salvage.specs.Walk.{state, counted, Sized, Countable}

module _ (v k d : List ℕ) (h : Sized longest_list (state v k d)) where
  pub can-count : (cause : ℕ) → T (ltb cause 4) → Countable d cause
  can-count cause l =
      record { there = omega (arith, h.dropped, ltb→lt cause 4 l); room = omega (arith, h.counts cause) }

  -- r is what place_of answered
  module _ (q t s : ℕ) (r : Option ℕ) (here : r ≡ place_of q t s) (i : ℕ) (found : r ≡ Some i) where
    pub row-flag : i < length k
    row-flag = omega (arith, h.kept, row_in q t s r here i found)

    pub value_room : (o n : ℕ) (x : List ℕ) → o ≡ offset_of i → n ≡ (row_at i).size → length x ≡ n → o + length x ≤ length v
    value_room o n x e m l = row_room q t s r here i o n x v found e m l h.values

-- what is left of the state
module _ (v k d : List ℕ) where
  pub drop-one : (cause : ℕ) (d' : List ℕ) → d' ≡ counted d cause → state v k d' ≡ state v k (counted d cause)
  drop-one cause d' e = rw e

  pub keep_one : (i o : ℕ) (x v' : List ℕ) → o ≡ offset_of i → v' ≡ put o x v → state v' (set k i 1) d ≡ state (put (offset_of i) x v) (set k i 1) d
  keep_one i o x v' e h = rw (h, e)
