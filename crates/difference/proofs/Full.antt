-- A list that lacks no part of the inventory: the turns of the loop that looks, and each row of such a list. Assumes nothing.
use mathlib.Core.Path.{◌≡◌, refl, sym, ◌∙◌}
use mathlib.Core.Bool.{Bool, true, false, not}
use Prim.Native.Nat.{ℕ, zero, suc, ◌+◌, ◌-◌, ◌<◌, ◌≤◌}
use native.Mathlib.Omega.{arith}
use borrow.Author.Tests.{ltb-true, ltb-false, not-true, not-false}
use lib.Dec.{ltb}
use Rattle.theory.proofs.Tests.{by_cases, both, and_i, true-and, false-and, true-or, or-true, false-or}
use Rattle.inventory.specs.Inventory.{row_at, row_count, present}
use Rattle.parts.specs.List.{PartList, among}
use Rattle.difference.specs.Difference.{has_row, has_rows}

-- ---- the turns of the loop ----

module _ (queues : ℕ) (ps : PartList) (x : Bool) (i : ℕ) (e : x ≡ has_rows queues ps (row_count - i) i) where
  -- b: the list has the part of row i
  module _ (b : Bool) (told : b ≡ has_row queues ps (row_at i)) (h : i < row_count) where
    pub rows_out : not b ≡ true → x ≡ false
    unfolding has_rows
    rows_out n =
        let k : row_count - i ≡ suc (row_count - (i + 1)) = omega arith in
        e ∙ rw (k, ← told, not-true b n) (false-and _)

    pub rows_on : not b ≡ false → x ≡ has_rows queues ps (row_count - (i + 1)) (i + 1)
    unfolding has_rows
    rows_on n =
        let k : row_count - i ≡ suc (row_count - (i + 1)) = omega arith in
        e ∙ rw (k, ← told, not-false b n) (true-and _)

  pub rows_end : row_count ≤ i → x ≡ true
  unfolding has_rows
  rows_end h = let k : row_count - i ≡ 0 = omega arith in e ∙ rw k

-- ---- each row ----

-- of k rows from the i-th on
has-row : (queues : ℕ) (ps : PartList) (k i : ℕ) → has_rows queues ps k i ≡ true → (j : ℕ) → i ≤ j → j < i + k
    → present queues (row_at j) ≡ true → among (row_at j).part_type (row_at j).selector ps ≡ true
unfolding has_rows has_row
has-row queues ps zero i e j h l p = absurd (omega arith)
has-row queues ps (suc k) i e j h l p =
    let b = both _ _ e in
    by_cases (ltb i j)
    (λ t. has-row queues ps k (i + 1) b.1 j (omega (arith, ltb-true i j t)) (omega arith) p)
    (λ t.
    let same : i ≡ j = omega (arith, ltb-false i j t) in
    sym (false-or _) ∙ rw (same, p) at b.0)

module _ (queues : ℕ) (ps : PartList) where
  pub full-there : has_rows queues ps row_count 0 ≡ true → (i : ℕ) → i < row_count → present queues (row_at i) ≡ true
      → among (row_at i).part_type (row_at i).selector ps ≡ true
  full-there e i h p = has-row queues ps row_count 0 e i (omega arith) h p

  -- a list that has each is such a list
  pub there-full : ((i : ℕ) → i < row_count → present queues (row_at i) ≡ true → among (row_at i).part_type (row_at i).selector ps ≡ true)
      → (k i : ℕ) → i + k ≡ row_count → has_rows queues ps k i ≡ true
  unfolding has_rows has_row
  there-full r zero i e = refl
  there-full r (suc k) i e =
      and_i _ _
      (by_cases (present queues (row_at i)) (λ y. rw (r i (omega arith) y) (or-true _)) (λ n. rw n (true-or _)))
      (there-full r k (i + 1) (omega arith))
