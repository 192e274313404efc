-- Rules of the whole inventory: each is one test that antt computes over the table. Assumes nothing.
use mathlib.Core.Path.{◌≡◌, refl}
use mathlib.Core.Bool.{Bool, true, not}
use mathlib.Core.List.{List, [], ◌∷◌}
use Prim.Native.Nat.{ℕ, ◌+◌, ◌<◌, ◌≤◌, ◌^◌}
use borrow.Author.Tests.{eqb-true, ltb-true, leb-true, lt-leb, eq-eqb}
use lib.Dec.{leb, ltb, eqb}
use lib.ListN.{length}
use Rattle.theory.specs.Logic.{◌and◌, ◌or◌, indicator, when◌then◌else◌}
use Rattle.theory.proofs.Table.{every, at}
use Rattle.wire.specs.Le.{bytes}
use Rattle.inventory.specs.declared.Row.{Row}
use Rattle.inventory.specs.Inventory.{row, rows, row_at, row_count, features_row, device_features, features_size, present, offset_of, values_size, selector_of, is_row, seek, place_of}
use Rattle.inventory.specs.Header.{header_of, header_size}

-- what computes where a proof says `unfolding table`
unfoldable pub table : Unit {0}
unfolding rows row_at present offset_of selector_of is_row seek place_of every ◌and◌ ◌or◌ indicator when◌then◌else◌
table = tt

-- ---- the numbers of the table ----

row-count : length rows ≡ row_count
unfolding rows
row-count = refl

-- a test of each row and its index holds at each
pub every-row : (f : ℕ → Row → Bool) → every f 0 rows ≡ true → (i : ℕ) → i < row_count → f i (row_at i) ≡ true
unfolding row_at
every-row f t i h = at f (row 0 0 0 0) rows t i (rw row-count h)

-- and of each queue count
abbrev counts : List ℕ
counts = 0 ∷ 1 ∷ 2 ∷ 3 ∷ 4 ∷ []

pub every-count : (f : ℕ → Bool) → every (λ q x. f q) 0 counts ≡ true → (q : ℕ) → q < 5 → f q ≡ true
every-count f t q h = at (λ q x. f q) 0 counts t q h

-- ---- numbers of a row ----

module _ (i : ℕ) (h : i < row_count) where
  pub type-below : (row_at i).part_type < 2 ^ 16
  unfolding table
  type-below = ltb-true _ _ (every-row (λ k r. ltb r.part_type (2 ^ 16)) refl i h)

  pub selector-below : (row_at i).selector < 256
  unfolding table
  selector-below = ltb-true _ _ (every-row (λ k r. ltb r.selector 256) refl i h)

  pub size_below : (row_at i).size < 256
  unfolding table
  size_below = ltb-true _ _ (every-row (λ k r. ltb r.size 256) refl i h)

  -- a row's selector is read whole
  pub selector-own : selector_of (row_at i).part_type (row_at i).selector ≡ (row_at i).selector
  unfolding table
  selector-own = eqb-true _ _ (every-row (λ k r. eqb (selector_of r.part_type r.selector) r.selector) refl i h)

  -- ---- places of values: running sums ----

  pub offset-own : (row_at i).offset ≡ offset_of i
  unfolding table
  offset-own = eqb-true _ _ (every-row (λ k r. eqb r.offset (offset_of k)) refl i h)

  pub offset-next : offset_of (i + 1) ≡ offset_of i + (row_at i).size
  unfolding table
  offset-next = eqb-true _ _ (every-row (λ k r. eqb (offset_of (k + 1)) (offset_of k + r.size)) refl i h)

  pub row_within : offset_of i + (row_at i).size ≤ values_size
  unfolding table
  row_within = leb-true _ _ (every-row (λ k r. leb (offset_of k + r.size) values_size) refl i h)

  -- no two overlap
  pub rows_apart : (j : ℕ) → j < row_count → i < j → offset_of i + (row_at i).size ≤ offset_of j
  unfolding table
  rows_apart j l a =
      let t = every-row (λ m s. every (λ k r. leb m k or leb (offset_of k + r.size) (offset_of m)) 0 rows) refl j l in
      let u = every-row (λ k r. leb j k or leb (offset_of k + r.size) (offset_of j)) t i h in
      leb-true _ _ (rw (lt-leb j i a) at u)

  -- ---- device features ----

  pub features-row : (row_at i).part_type ≡ device_features → i ≡ features_row
  unfolding table
  features-row e =
      let t = every-row (λ k r. not (eqb r.part_type device_features) or eqb k 0) refl i h in
      eqb-true i 0 (rw (eq-eqb _ _ e) at t)

pub row_zero : row_at features_row ≡ row device_features 0 features_size 0
unfolding table
row_zero = refl

pub offset-zero : offset_of features_row ≡ 0
unfolding table
offset-zero = refl

-- ---- headers ----

pub length-header : (r : Row) → length (header_of r) ≡ header_size
unfolding header_of bytes
length-header r = refl
