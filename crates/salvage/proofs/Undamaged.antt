-- A list of which nothing is dropped: each of its parts is allowed, so that the first copy of each is kept. Assumes nothing.
use mathlib.Core.Path.{◌≡◌, refl, ap, ◌∙◌}
use mathlib.Core.Bool.{Bool, true}
use mathlib.Core.List.{List, [], ◌∷◌}
use Prim.Native.Nat.{ℕ, zero, suc, ◌<◌}
use native.Mathlib.Omega.{arith}
use borrow.Author.Tests.{eq-eqb}
use lib.Dec.{eqb}
use lib.ListN.{get_or, replicate}
use Rattle.theory.specs.Logic.{when◌then◌else◌, ◌and◌, ◌or◌, indicator}
use Rattle.theory.specs.Bytes.{same}
use Rattle.theory.specs.Items.{items_from}
use Rattle.theory.proofs.Tests.{by_cases, both, and_i, and-true, same_true}
use Rattle.theory.proofs.Items.{items-same}
use Rattle.inventory.specs.Inventory.{row_at, row_count, present, part_count}
use Rattle.inventory.proofs.Rules.{table, every-count}
use Rattle.parts.specs.declared.ListForm.TheVariants.{Parts}
use Rattle.parts.specs.List.{Part, PartList, end, cut, part, parts_of, among, value_or}
use Rattle.rules.specs.Rules.{every}
use Rattle.salvage.specs.Salvage.{allowed, is_copy, kept_or, is_kept, fate_of, is_dropped, dropped_from, is_kept_row, kept_item, kept_report, dropped_report}
use Rattle.salvage.specs.Claims.{InSetup, HasRow, Undamaged, Back}
use Rattle.salvage.proofs.Rows.{fate-cases}
use Rattle.salvage.proofs.Values.{few, value_written}

module _ (q : ℕ) (features : List ℕ) where
  -- ---- nothing is dropped ----

  -- of a part that is in no count
  none_here : (b : Bool) (p : Part) → ((cause : ℕ) → cause < 4 → indicator (is_dropped cause (fate_of q features b p)) ≡ 0)
      → allowed q features p ≡ true
  unfolding indicator
  none_here b p =
      fate-cases q features b p
      (λ f. ((cause : ℕ) → cause < 4 → indicator (is_dropped cause f) ≡ 0) → allowed q features p ≡ true)
      (λ cause l none z. let one : ◌≡◌ {A = ℕ} 1 0 = rw (eq-eqb cause cause refl) at (z cause l) in absurd (omega arith))
      (λ free a z. a)

  all-allowed : (before ps : PartList) → ((cause : ℕ) → cause < 4 → dropped_from q features cause before ps ≡ 0)
      → every (allowed q features) ps ≡ true
  unfolding dropped_from every
  all-allowed before end z = refl
  all-allowed before cut z = refl
  all-allowed before (part p ps) z =
      and_i _ _
      (none_here (is_kept q features p.part_type p.selector before) p (λ cause l. let e = z cause l in omega arith))
      (all-allowed (part p before) ps (λ cause l. let e = z cause l in omega arith))

  -- ---- each part is allowed ----

  module _ (t s : ℕ) where
    copy-named : (p : Part) → allowed q features p ≡ true → is_copy q features t s p ≡ eqb p.part_type t and eqb p.selector s
    unfolding is_copy
    copy-named p a = rw a (and-true _)

    kept-among : (ps : PartList) → every (allowed q features) ps ≡ true → is_kept q features t s ps ≡ among t s ps
    unfolding every is_kept among
    kept-among end a = refl
    kept-among cut a = refl
    kept-among (part p ps) a = let b = both _ _ a in rw (copy-named p b.0, kept-among ps b.1)

    kept-first : (x : List ℕ) (ps : PartList) → every (allowed q features) ps ≡ true → among t s ps ≡ true
        → kept_or q features t s x ps ≡ value_or t s ps []
    unfolding every kept_or among value_or when◌then◌else◌ ◌or◌
    kept-first x end a y = cc
    kept-first x cut a y = cc
    kept-first x (part p ps) a y =
        let b = both _ _ a in
        by_cases (eqb p.part_type t and eqb p.selector s)
        (λ e. rw (copy-named p b.0, e))
        (λ e. rw (copy-named p b.0, e) (kept-first x ps b.1 (rw e at y)))

-- ---- the report of all kept ----

abbrev one_for : ℕ → ℕ → List ℕ
one_for q i = when present q (row_at i) then 1 ∷ [] else []

all_ones : (q : ℕ) → q < 5 → items_from (one_for q) row_count 0 ≡ replicate (part_count q) 1
unfolding table items_from same
all_ones q h = same_true _ _ (every-count (λ q. same (items_from (one_for q) row_count 0) (replicate (part_count q) 1)) refl q h)

module _ (q : ℕ) (features l : List ℕ) (g : InSetup q features) (u : Undamaged q features l) where
  counts_zero : (cause : ℕ) → cause < 4 → dropped_from q features cause end (parts_of Parts l) ≡ 0
  unfolding dropped_report
  counts_zero zero h = ap (λ (x : List ℕ). get_or x 0 0) u.none_dropped
  counts_zero (suc zero) h = ap (λ (x : List ℕ). get_or x 1 0) u.none_dropped
  counts_zero (suc (suc zero)) h = ap (λ (x : List ℕ). get_or x 2 0) u.none_dropped
  counts_zero (suc (suc (suc zero))) h = ap (λ (x : List ℕ). get_or x 3 0) u.none_dropped
  counts_zero (suc (suc (suc (suc n)))) h = absurd (omega arith)

  each-allowed : every (allowed q features) (parts_of Parts l) ≡ true
  each-allowed = all-allowed q features end (parts_of Parts l) counts_zero

  each-kept : (i : ℕ) → HasRow q i → is_kept_row q features l i ≡ true
  each-kept i r = kept-among q features (row_at i).part_type (row_at i).selector (parts_of Parts l) each-allowed ∙ u.each i r

  pub comes_back : Back q features l
  unfolding kept_report kept_item when◌then◌else◌ indicator
  comes_back =
      record {
        values = λ i r.
            value_written q features l g i r
            ∙ kept-first q features (row_at i).part_type (row_at i).selector _ (parts_of Parts l) each-allowed (u.each i r);
        kept =
            items-same (kept_item q features l) (one_for q) row_count row_count 0 refl
            (λ i h.
            by_cases (present q (row_at i))
            (λ y. rw (y, each-kept i (record { below = h; there = y })))
            (λ n. rw n))
            ∙ all_ones q (few q features l g);
      }
