-- A member's values, row by row: what is put in one row is that row's value, and leaves the others; values that are the same
-- in each row are the same. Assumes nothing.
use mathlib.Core.Path.{◌≡◌, refl, ap, sym, ◌∙◌}
use mathlib.Core.Logic.{◌≢◌}
use mathlib.Core.List.{List}
use Prim.Native.Nat.{ℕ, zero, suc, ◌+◌, ◌<◌, ◌≤◌}
use native.Mathlib.Numerals.{add-one}
use native.Mathlib.Omega.{arith}
use borrow.Author.Tests.{ltb-true, ltb-false}
use lib.Dec.{ltb}
use lib.ListN.{length, take}
use lib.Seq.{take_all, take-add}
use Rattle.theory.specs.Bytes.{bytes_at, put}
use Rattle.theory.proofs.Tests.{by_cases}
use Rattle.theory.proofs.Bytes.{length-bytes_at, bytes_at-before, bytes_at-after, bytes_at-put-as}
use Rattle.inventory.specs.Inventory.{row_at, row_count, features_row, features_size, offset_of, values_size, value_of}
use Rattle.inventory.proofs.Rules.{table, row_within, rows_apart, row_zero, offset-zero, offset-next}

pub value-long : (v : List ℕ) → length v ≡ values_size → (i : ℕ) → i < row_count → length (value_of v i) ≡ (row_at i).size
value-long v n i h = length-bytes_at (offset_of i) (row_at i).size v (omega (arith, row_within i h))

-- the device features stand first
pub features-value : (v : List ℕ) → value_of v features_row ≡ bytes_at 0 features_size v
features-value v = rw (offset-zero, row_zero)

-- ---- x put in row j ----

module _ (j : ℕ) (h : j < row_count) (x v : List ℕ) (e : length x ≡ (row_at j).size) where
  pub own_value : length v ≡ values_size → value_of (put (offset_of j) x v) j ≡ x
  own_value n = bytes_at-put-as (offset_of j) (row_at j).size x v e (omega (arith, row_within j h))

  pub other-value : (i : ℕ) → i < row_count → i ≢ j → value_of (put (offset_of j) x v) i ≡ value_of v i
  other-value i l other =
      by_cases (ltb i j)
      (λ t. bytes_at-before (offset_of i) (row_at i).size (offset_of j) x v (rows_apart i l j h (ltb-true i j t)))
      (λ t.
      let less : j < i = omega (arith, ltb-false i j t, other) in
      bytes_at-after (offset_of i) (row_at i).size (offset_of j) x v (rw e (rows_apart j h i l less)))

-- ---- all rows ----

offset-end : offset_of row_count ≡ values_size
unfolding table
offset-end = refl

rows-to : (v w : List ℕ) → ((i : ℕ) → i < row_count → value_of v i ≡ value_of w i) → (k : ℕ) → k ≤ row_count
    → take (offset_of k) v ≡ take (offset_of k) w
rows-to v w e zero h = rw offset-zero
rows-to v w e (suc k) h =
    let n : offset_of (suc k) ≡ offset_of k + (row_at k).size = ap offset_of (sym (add-one k)) ∙ offset-next k (omega arith) in
    rw (n, take-add (offset_of k) (row_at k).size v, take-add (offset_of k) (row_at k).size w, rows-to v w e k (omega arith), e k (omega arith))

pub by_value : (v w : List ℕ) → length v ≡ values_size → length w ≡ values_size
    → ((i : ℕ) → i < row_count → value_of v i ≡ value_of w i) → v ≡ w
by_value v w a b e =
    let x = rw offset-end at (rows-to v w e row_count (omega arith)) in
    sym (take_all values_size v (omega arith)) ∙ x ∙ take_all values_size w (omega arith)
