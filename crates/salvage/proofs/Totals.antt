-- What is kept and dropped adds up to the parts read: each part of the walk adds one to the flags or to the counts. Assumes nothing.
use mathlib.Core.Path.{◌≡◌, refl, ap, sym, ◌∙◌}
use mathlib.Core.Bool.{true}
use mathlib.Core.List.{List, [], ◌∷◌, ◌++◌}
use Prim.Native.Nat.{ℕ, zero, suc, ◌+◌, ◌<◌, ◌≤◌}
use native.Mathlib.Nat.{zero-add, add-zero}
use native.Mathlib.Numerals.{add-one}
use native.Mathlib.Omega.{arith}
use borrow.Author.Tests.{eqb-true, eqb-false, not-true, not-false}
use lib.ListN.{length, get_or, drop, set, replicate, drop_of_length-le}
use lib.Seq.{drop-cons}
use Rattle.theory.specs.Logic.{when◌then◌else◌, indicator}
use Rattle.theory.specs.Items.{items_from}
use Rattle.theory.proofs.Tests.{by_cases, either}
use Rattle.theory.proofs.Sums.{sum_from, sums_same}
use Rattle.inventory.specs.Inventory.{row_at, row_count, features_size, present, total}
use Rattle.inventory.proofs.Find.{place_found}
use Rattle.parts.specs.declared.ListForm.TheVariants.{Parts}
use Rattle.parts.specs.List.{Part, PartList, end, cut, part, parts_of}
use Rattle.salvage.specs.Salvage.{is_copy, is_kept, is_kept_row, kept_item, kept_report, dropped_report}
use Rattle.salvage.specs.Walk.{State, taken, walked, Sized}
use Rattle.salvage.specs.Claims.{parts_read}
use Rattle.salvage.proofs.Fates.{kept_before, done, taken-fate, taken-sized}
use Rattle.salvage.proofs.Rows.{fate-cases, allowed-place, copy-place}
use Rattle.salvage.proofs.Whole.{start_of, start-sized, end_of, end-sized, end-flag, counts-are}

-- ---- totals ----

total-set : (l : List ℕ) (i x : ℕ) → i < length l → total (set l i x) + get_or l i 0 ≡ total l + x
total-set [] i x h = absurd (omega arith)
total-set (y ∷ l) zero x h = omega arith
total-set (y ∷ l) (suc i) x h = omega (arith, total-set l i x (omega arith))

total-zeros : (n : ℕ) → total (replicate n 0) ≡ 0
total-zeros zero = refl
total-zeros (suc n) = zero-add _ ∙ total-zeros n

total-append : (x y : List ℕ) → total (x ++ y) ≡ total x + total y
total-append [] y = omega arith
total-append (n ∷ x) y = omega (arith, total-append x y)

total-items : (item : ℕ → List ℕ) (k i : ℕ) → total (items_from item k i) ≡ sum_from (λ j. total (item j)) k i
unfolding items_from sum_from
total-items item zero i = refl
total-items item (suc k) i = total-append (item i) (items_from item k (i + 1)) ∙ rw (total-items item k (i + 1))

total-from : (l : List ℕ) (k i : ℕ) → i + k ≡ length l → total (drop i l) ≡ sum_from (λ j. get_or l j 0) k i
unfolding sum_from
total-from l zero i e = let h : length l ≤ i = omega arith in rw (drop_of_length-le l h)
total-from l (suc k) i e =
    let h : i < length l = omega arith in
    let rest = ap (λ j. total (drop j l)) (sym (add-one i)) ∙ total-from l k (i + 1) (omega arith) in
    ap total (drop-cons l i 0 h) ∙ ap (λ n. get_or l i 0 + n) rest

-- ---- one part adds one ----

abbrev sum : State → ℕ
sum s = total s.kept + total s.dropped

taken-total : (q : ℕ) (features : List ℕ) (p : Part) (s : State) (n : ℕ) → Sized n s → sum (taken q features p s) ≡ sum s + 1
taken-total q features p s n h =
    rw (taken-fate q p s features)
    (fate-cases q features (kept_before q p s) p (λ f. sum (done q f p s) ≡ sum s + 1)
    (λ cause few none. omega (arith, total-set s.dropped cause (get_or s.dropped cause 0 + 1) (omega (arith, h.dropped))))
    (λ free a.
    allowed-place q features p a
    (λ j e.
    let f = place_found q p.part_type p.selector j e in
    let clear : get_or s.kept j 0 ≡ 0 = eqb-true _ 0 (not-false _ (rw e at free)) in
    rw e (omega (arith, total-set s.kept j 1 (omega (arith, h.kept, f.below)))))))

pub walked-total : (q : ℕ) (features : List ℕ) (ps : PartList) (s : State) (n : ℕ) → Sized n s → sum (walked q features ps s) ≡ sum s + parts_read ps
unfolding walked parts_read
walked-total q features end s n h = sym (add-zero _)
walked-total q features cut s n h = sym (add-zero _)
walked-total q features (part p ps) s n h =
    omega (
      arith,
      taken-total q features p s n h,
      walked-total q features ps (taken q features p s) (n + 1) (taken-sized q n features p s h),
    )

-- ---- the report ----

-- what is kept is a part that the member has
kept_there : (q : ℕ) (features : List ℕ) (i : ℕ) → i < row_count → (ps : PartList)
    → is_kept q features (row_at i).part_type (row_at i).selector ps ≡ true → present q (row_at i) ≡ true
unfolding is_kept
kept_there q features i h end k = cc
kept_there q features i h cut k = cc
kept_there q features i h (part p ps) k =
    either (is_copy q features (row_at i).part_type (row_at i).selector p) _ k
    (λ c. (place_found q _ _ i (copy-place q features p i h c)).there)
    (kept_there q features i h ps)

module _ (q : ℕ) (features l : List ℕ) (sixteen : length features ≡ features_size) where
  abbrev end_kept : List ℕ
  end_kept = (end_of q features l sixteen).kept

  -- a row's flag is what it adds to the report
  row-total : (i : ℕ) → i < row_count → total (kept_item q features l i) ≡ get_or end_kept i 0
  unfolding kept_item when◌then◌else◌ indicator
  row-total i h =
      let e = end-flag q features l sixteen i h in
      let low = (end-sized q features l sixteen).flags i in
      by_cases (is_kept_row q features l i)
      (λ y.
      let some = eqb-false (get_or end_kept i 0) 0 (not-true _ (e ∙ y)) in
      rw (kept_there q features i h (parts_of Parts l) y, y) (omega arith))
      (λ n.
      let none = eqb-true (get_or end_kept i 0) 0 (not-false _ (e ∙ n)) in
      by_cases (present q (row_at i)) (λ p. rw (p, n, none)) (λ p. rw (p, none)))

  pub kept-total : total (kept_report q features l) ≡ total end_kept
  unfolding kept_report
  kept-total =
      total-items (kept_item q features l) row_count 0
      ∙ sums_same (λ j. total (kept_item q features l j)) (λ j. get_or end_kept j 0) row_count row_count 0 refl row-total
      ∙ sym (total-from end_kept row_count 0 (sym (end-sized q features l sixteen).kept))

  pub report-total : total (kept_report q features l) + total (dropped_report q features l) ≡ parts_read (parts_of Parts l)
  report-total =
      rw (kept-total, ← counts-are q features l sixteen)
      (walked-total q features (parts_of Parts l) (start_of q features) 0 (start-sized q features sixteen)
      ∙ rw (total-zeros row_count, total-zeros 4) (zero-add _))
