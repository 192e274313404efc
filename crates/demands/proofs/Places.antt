-- The place of a part, of the member's own inventory: specs/Places.antt. What is said of all rows or all parts is one test
-- that antt computes for each queue count. Assumes nothing.
use mathlib.Core.Path.{◌≡◌, refl, ap, sym, ◌∙◌}
use mathlib.Core.Bool.{Bool, true, not}
use Prim.Native.Nat.{ℕ, ◌*◌, ◌≤◌, ◌<◌}
use native.Mathlib.Omega.{arith}
use borrow.Author.Tests.{eqb-true, ltb-true}
use lib.Dec.{ltb, eqb}
use lib.ListN.{length, take}
use Rattle.std.specs.Prelude.{Option, Some, None}
use Rattle.theory.specs.Logic.{◌and◌, ◌or◌}
use Rattle.theory.specs.Bytes.{bytes_at, same}
use Rattle.theory.specs.Items.{items_from}
use Rattle.theory.proofs.Tests.{both, same_true, never}
use Rattle.theory.proofs.Table.{every, at}
use Rattle.wire.specs.Le.{bytes}
use Rattle.inventory.specs.declared.Row.{Row}
use Rattle.inventory.specs.Inventory.{rows, row_at, row_count, present, part_count, place_of}
use Rattle.inventory.specs.Header.{header_of, header_size}
use Rattle.inventory.proofs.Rules.{table, every-row, every-count}
use Rattle.inventory.proofs.Find.{place_found, own-place}
use Rattle.capture.specs.Capture.{header_item, headers_of}
use Rattle.demands.specs.Places.{own_from, own_rows, row_of, Has, PlacesFound}

-- how many of the first i rows are there: the number of row i among the parts
abbrev number_of : ℕ → ℕ → ℕ
number_of q i = length (own_from q (take i rows) 0)

-- each row that is there is the part of its number
is_numbered : ℕ → ℕ → Row → Bool
is_numbered q i r = not (present q r) or (ltb (number_of q i) (part_count q) and eqb (row_of q (number_of q i)) i)

-- the row of a part is one of the table's and there, and its header is the part's
is_part : ℕ → ℕ → ℕ → Bool
is_part q p i = ltb i row_count and present q (row_at i) and same (bytes_at (header_size * p) header_size (headers_of q)) (header_of (row_at i))

module _ (q : ℕ) (h : q ≤ 4) where
  count-is : length (own_rows q) ≡ part_count q
  unfolding table own_rows own_from
  count-is = eqb-true _ _ (every-count (λ q. eqb (length (own_rows q)) (part_count q)) refl q (omega arith))

  part-is : (p : ℕ) → p < part_count q → is_part q p (row_of q p) ≡ true
  unfolding table own_rows own_from is_part same headers_of header_item header_of items_from bytes
  part-is p l = at (is_part q) row_count (own_rows q) (every-count (λ q. every (is_part q) 0 (own_rows q)) refl q (omega arith)) p (rw count-is l)

  numbered : (i : ℕ) → i < row_count → is_numbered q i (row_at i) ≡ true
  unfolding table own_rows own_from is_numbered
  numbered i l = every-row (is_numbered q) (every-count (λ q. every (is_numbered q) 0 rows) refl q (omega arith)) i l

  -- the row of a part is found
  module _ (p : ℕ) (l : p < part_count q) where
    row-found : place_of q (row_at (row_of q p)).part_type (row_at (row_of q p)).selector ≡ Some (row_of q p)
    unfolding is_part
    row-found =
        let a = both _ _ (both _ _ (part-is p l)).0 in
        own-place q (row_of q p) (omega arith) (ltb-true _ _ a.0) a.1

    header_is : bytes_at (header_size * p) header_size (headers_of q) ≡ header_of (row_at (row_of q p))
    unfolding is_part
    header_is = same_true _ _ (both _ _ (part-is p l)).1

    found-has : (t s : ℕ) → place_of q t s ≡ Some (row_of q p) → Has q t s p
    found-has t s e =
        let f = place_found q t s (row_of q p) e in
        record { type-is = f.type-is; selector-is = f.selector-is }

    has-found : (t s : ℕ) → Has q t s p → place_of q t s ≡ Some (row_of q p)
    has-found t s x = rw (← x.type-is, ← x.selector-is) row-found

    has-place : (t s : ℕ) → place_of q t s ≡ None → Has q t s p → ⊥
    has-place t s e x =
        let both_ways : None ≡ Some (row_of q p) = sym e ∙ has-found t s x in
        never cc

  -- a row that is found is that of a part
  found_part : (t s i : ℕ) → ((p : ℕ) → p < part_count q → Has q t s p → ⊥) → place_of q t s ≡ Some i → ⊥
  unfolding is_numbered ◌or◌
  found_part t s i none e =
      let f = place_found q t s i e in
      let n = both _ _ (rw f.there at (numbered i f.below)) in
      let l = ltb-true _ _ n.0 in
      none (number_of q i) l (found-has (number_of q i) l t s (e ∙ ap Some (sym (eqb-true _ _ n.1))))

  none-absent : (t s : ℕ) (r : Option ℕ) → place_of q t s ≡ r → ((p : ℕ) → p < part_count q → Has q t s p → ⊥) → r ≡ None
  none-absent t s (Some i) e none = absurd (found_part t s i none e)
  none-absent t s None e none = refl

pub places-found : PlacesFound
places-found q l h = record {
  count = count-is q h;
  header = header_is q h;
  found = λ t s p k. found-has q h p k t s;
  there = λ t s p k. has-found q h p k t s;
  absent = λ t s p k. has-place q h p k t s;
  lacking = λ t s. none-absent q h t s (place_of q t s) refl;
}
