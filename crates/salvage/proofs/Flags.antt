-- The report of kept rows, written in a loop over the table: a byte for each row that the member has. Assumes nothing.
use mathlib.Core.Path.{◌≡◌, refl, ap, ◌∙◌}
use mathlib.Core.Bool.{Bool, true, false, not}
use mathlib.Core.List.{List, [], ◌∷◌}
use Prim.Native.Nat.{ℕ, ◌+◌, ◌^◌, ◌<◌}
use native.Mathlib.Omega.{arith}
use borrow.Author.Tests.{eqb-true}
use mir.Syntax.{w64}
use mir.Val.{Fits, bool_byte}
use lib.Dec.{eqb}
use lib.ListN.{length, get_or, set}
use Rattle.theory.specs.Logic.{when◌then◌else◌, indicator}
use Rattle.theory.specs.Items.{items_from}
use Rattle.theory.proofs.Tests.{bool-byte}
use Rattle.theory.proofs.Bytes.{put_one}
use Rattle.theory.proofs.Sums.{sum_from, length-items}
use Rattle.theory.proofs.Items.{Written, written_start, written-room, written_next, written-skip}
use Rattle.inventory.specs.Inventory.{row_at, row_count, present, part_count}
use Rattle.inventory.proofs.Rules.{table, every-count}
use Rattle.salvage.specs.Walk.{flag_item, KeptFits}

-- ---- how many there are ----

-- what is there for each row that the member has
pub length-one : (q : ℕ) (item : ℕ → List ℕ) → q < 5 → ((i : ℕ) → length (item i) ≡ indicator (present q (row_at i)))
    → length (items_from item row_count 0) ≡ part_count q
unfolding table sum_from
length-one q item few one =
    length-items item (λ i. indicator (present q (row_at i))) row_count row_count 0 refl (λ i h. one i)
    ∙ eqb-true _ _ (every-count (λ q. eqb (sum_from (λ i. indicator (present q (row_at i))) row_count 0) (part_count q)) refl q few)

pub length-byte : (b : Bool) (x : ℕ) → length (when b then x ∷ [] else []) ≡ indicator b
unfolding when◌then◌else◌ indicator
length-byte true x = refl
length-byte false x = refl

pub flags-start : (q : ℕ) (kept out : List ℕ) → KeptFits q kept out → Written (flag_item q kept) row_count 0 out out 0 0
unfolding flag_item
flags-start q kept out h =
    let n = length-one q (flag_item q kept) h.few (λ i. length-byte (present q (row_at i)) _) in
    written_start (flag_item q kept) row_count 0 out (omega (arith, h.room))

-- ---- a turn of the loop ----

module _ (q : ℕ) (kept out₀ out : List ℕ) (at i : ℕ) (w : Written (flag_item q kept) row_count 0 out₀ out at i) (h : i < row_count)
    (b : Bool) (told : b ≡ present q (row_at i)) where
  item-there : b ≡ true → flag_item q kept i ≡ indicator (not (eqb (get_or kept i 0) 0)) ∷ []
  unfolding flag_item when◌then◌else◌
  item-there y = rw (← told, y)

  pub flags-room : b ≡ true → at < length out
  flags-room y = let r = written-room _ _ _ _ _ _ _ w 1 h (ap length (item-there y)) in omega arith

  pub flags-fits : b ≡ true → length out₀ < 2 ^ 64 → Fits w64 (at + 1)
  flags-fits y l = record { fits = omega (arith, flags-room y, w.long) }

  pub flags-on : b ≡ true → Written (flag_item q kept) row_count 0 out₀ (set out at (bool_byte (not (eqb (get_or kept i 0) 0)))) (at + 1) (i + 1)
  flags-on y =
      let x = indicator (not (eqb (get_or kept i 0) 0)) in
      rw (bool-byte, ← put_one at x out) (rw (item-there y) at (written_next _ _ _ _ _ _ _ w h))

  pub flags-skip : b ≡ false → Written (flag_item q kept) row_count 0 out₀ out at (i + 1)
  unfolding flag_item when◌then◌else◌
  flags-skip n = written-skip _ _ _ _ _ _ _ w h (rw (← told, n))
