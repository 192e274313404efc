-- The search for a part's row: what it finds is that part's row, and each row that is there is found. Assumes nothing.
use mathlib.Core.Path.{◌≡◌, refl, ap, sym, ◌∙◌}
use mathlib.Core.Bool.{Bool, true, false}
use mathlib.Core.List.{List, [], ◌∷◌}
use Prim.Native.Nat.{ℕ, suc, ◌+◌, ◌<◌}
use native.Mathlib.Nat.{zero-add}
use native.Mathlib.Omega.{arith}
use borrow.Author.Tests.{eqb-true}
use lib.Dec.{eqb}
use lib.ListN.{length, get_or}
use Rattle.std.specs.Prelude.{Option, Some, None}
use Rattle.theory.specs.Logic.{when◌then◌else◌}
use Rattle.theory.proofs.Tests.{by_cases, both, never}
use Rattle.theory.proofs.Table.{every}
use Rattle.inventory.specs.declared.Row.{Row}
use Rattle.inventory.specs.Inventory.{row, rows, row_at, row_count, present, is_row, seek, place_of}
use Rattle.inventory.proofs.Rules.{table, every-row, every-count}

-- ---- what is found ----

-- row i is there, and has this type and selector
pub record Found (q t s i : ℕ) : Type 0 where
  pub below : i < row_count
  pub type-is : (row_at i).part_type ≡ t
  pub selector-is : (row_at i).selector ≡ s
  pub there : present q (row_at i) ≡ true

found : (q t s i : ℕ) → i < row_count → is_row q t s (row_at i) ≡ true → Found q t s i
unfolding is_row
found q t s i h e =
    let a = both _ _ e in
    let b = both _ _ a.0 in
    record { below = h; type-is = eqb-true _ _ b.0; selector-is = eqb-true _ _ b.1; there = a.1 }

-- in rows that are those of the table from k on
seek_found : (q t s : ℕ) (rs : List Row) (k i : ℕ) → k + length rs ≡ row_count → ((j : ℕ) → get_or rs j (row 0 0 0 0) ≡ row_at (k + j))
    → seek q t s rs k ≡ Some i → Found q t s i
unfolding seek when◌then◌else◌
seek_found q t s [] k i n same e = never cc
seek_found q t s (r ∷ rs) k i n same e =
    by_cases (is_row q t s r)
    (λ y.
    let here : k + 0 ≡ i = omega (arith, at-inj (rw y at e)) in
    found q t s i (omega arith) (rw (← here, ← same 0) y))
    (λ no. seek_found q t s rs (k + 1) i (omega arith) (λ j. same (suc j) ∙ ap row_at (omega arith)) (rw no at e))
  where
    at-inj : Some k ≡ Some i → k ≡ i
    at-inj p = cc

pub place_found : (q t s i : ℕ) → place_of q t s ≡ Some i → Found q t s i
unfolding place_of rows row_at
place_found q t s i e = seek_found q t s rows 0 i refl (λ j. rw zero-add) e

-- ---- what is there is found ----

is_at : ℕ → Option ℕ → Bool
is_at k (Some i) = eqb i k
is_at k None = false

is_at-is : (k : ℕ) (p : Option ℕ) → is_at k p ≡ true → p ≡ Some k
unfolding is_at
is_at-is k (Some i) e = ap Some (eqb-true i k e)
is_at-is k None e = cc

pub own-place : (q i : ℕ) → q < 5 → i < row_count → present q (row_at i) ≡ true → place_of q (row_at i).part_type (row_at i).selector ≡ Some i
unfolding table is_at
own-place q i h l p =
    let t = every-count (λ q. every (λ k r. when present q r then is_at k (place_of q r.part_type r.selector) else true) 0 rows) refl q h in
    let u = every-row (λ k r. when present q r then is_at k (place_of q r.part_type r.selector) else true) t i l in
    is_at-is i _ (rw p at u)

-- with four queues every row is there, so no two rows have one type and selector
pub all-present : (i : ℕ) → i < row_count → present 4 (row_at i) ≡ true
unfolding table
all-present i h = every-row (λ k r. present 4 r) refl i h

pub rows-distinct : (i j : ℕ) → i < row_count → j < row_count → (row_at i).part_type ≡ (row_at j).part_type → (row_at i).selector ≡ (row_at j).selector
    → i ≡ j
rows-distinct i j h l e f =
    let a = own-place 4 i (omega arith) h (all-present i h) in
    let b = own-place 4 j (omega arith) l (all-present j l) in
    let p : Some i ≡ Some j = sym a ∙ rw (e, f) b in
    cc
