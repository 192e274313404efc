-- What the walk leaves in a row: the first allowed copy of its part, or what was there; and its flag, whether there is one.
-- Assumes nothing.
use mathlib.Core.Path.{◌≡◌, refl, sym, ◌∙◌}
use mathlib.Core.Bool.{Bool, true, false, not}
use mathlib.Core.Logic.{◌≢◌}
use mathlib.Core.List.{List}
use Prim.Native.Nat.{ℕ, ◌+◌, ◌<◌}
use native.Mathlib.Omega.{arith}
use borrow.Author.Tests.{eqb-true, eq-eqb, not-true, not-false}
use lib.ListN.{length, get_or, set}
use lib.Seq.{get_or-set_same, get_or-set_other}
use Rattle.std.specs.Prelude.{Option, Some, None, is_some}
use Rattle.theory.specs.Logic.{when◌then◌else◌, ◌and◌, ◌or◌}
use Rattle.theory.proofs.Tests.{by_cases, unless-cases, both, and_i, false-and, and-false, and-true, or-true, or-false, true-or, never, or_assoc, if-same}
use Rattle.inventory.proofs.Values.{own_value, other-value}
use Rattle.inventory.specs.Inventory.{row_at, row_count, place_of, value_of}
use Rattle.inventory.proofs.Find.{place_found, rows-distinct}
use Rattle.parts.specs.List.{Part, PartList, end, cut, part}
use Rattle.rules.specs.Rules.{known, length_right}
use Rattle.salvage.specs.Salvage.{allowed, is_copy, kept_or, is_kept, Fate, Kept, Dropped, fate_of}
use Rattle.salvage.specs.Walk.{State, dropping, taken, walked, Sized}
use Rattle.salvage.proofs.Fates.{flag, kept_before, done, taken-fate, taken-sized}

-- ---- one part: it is kept exactly if it is allowed and no copy of it was kept before ----

pub fate-cases : (q : ℕ) (features : List ℕ) (b : Bool) (p : Part) (P : Fate → Type 0)
    → ((cause : ℕ) → cause < 4 → not b and allowed q features p ≡ false → P (Dropped cause))
    → (b ≡ false → allowed q features p ≡ true → P Kept)
    → P (fate_of q features b p)
unfolding fate_of allowed
fate-cases q features b p P drops keeps =
    unless-cases P _ _ _ (λ k. drops _ (omega arith) (rw (k, false-and) (and-false _))) λ k.
    unless-cases P _ _ _ (λ e. drops _ (omega arith) (rw e (false-and _))) λ e.
    unless-cases P _ _ _ (λ n. drops _ (omega arith) (rw (n, false-and, and-false) (and-false _))) λ n.
    unless-cases P _ _ _ (λ v. drops _ (omega arith) (rw (v, and-false, and-false) (and-false _))) λ v.
    keeps (not-true b e) (and_i _ _ k (and_i _ _ n v))

module _ (q : ℕ) (features : List ℕ) (p : Part) where
  -- an allowed part has a row
  pub allowed-place : {P : Type 0} → allowed q features p ≡ true → ((j : ℕ) → place_of q p.part_type p.selector ≡ Some j → P) → P
  unfolding allowed known
  allowed-place {P} a f = cases (place_of q p.part_type p.selector) refl (both _ _ a).0
    where
      cases : (r : Option ℕ) → place_of q p.part_type p.selector ≡ r → is_some r ≡ true → P
      cases (Some j) e k = f j e
      cases None e k = never cc

  sized-at : (j : ℕ) → allowed q features p ≡ true → place_of q p.part_type p.selector ≡ Some j → length p.value ≡ (row_at j).size
  unfolding allowed length_right
  sized-at j a e = eqb-true _ _ (rw e at (both _ _ (both _ _ a).1).0)

  -- whether it is an allowed copy of row i's part
  module _ (i : ℕ) (below : i < row_count) where
    abbrev pub copy_of : Bool
    copy_of = is_copy q features (row_at i).part_type (row_at i).selector p

    copy-allowed : copy_of ≡ true → allowed q features p ≡ true
    unfolding is_copy
    copy-allowed c = (both _ _ c).1

    -- then its row is i, and else another
    pub copy-place : copy_of ≡ true → place_of q p.part_type p.selector ≡ Some i
    unfolding is_copy
    copy-place c =
        let n = both _ _ (both _ _ c).0 in
        allowed-place (both _ _ c).1
        (λ j e.
        let f = place_found q p.part_type p.selector j e in
        let same : j ≡ i = rows-distinct j i f.below below (f.type-is ∙ eqb-true _ _ n.0) (f.selector-is ∙ eqb-true _ _ n.1) in
        rw same at e)

    other_place : (j : ℕ) → allowed q features p ≡ true → copy_of ≡ false → place_of q p.part_type p.selector ≡ Some j → i ≢ j
    unfolding is_copy
    other_place j a c e same =
        let f = place_found q p.part_type p.selector j e in
        let t : p.part_type ≡ (row_at i).part_type = sym f.type-is ∙ rw same in
        let s : p.selector ≡ (row_at i).selector = sym f.selector-is ∙ rw same in
        let y = and_i _ _ (and_i _ _ (eq-eqb _ _ t) (eq-eqb _ _ s)) a in
        never cc

    -- ---- what it leaves in row i ----

    record After (s s' : State) : Type 0 where
      flagged : flag s' i ≡ flag s i or copy_of
      valued : value_of s'.values i ≡ (when flag s i then value_of s.values i else when copy_of then p.value else value_of s.values i)

    module _ (s : State) (n : ℕ) (h : Sized n s) where
      before-is : copy_of ≡ true → kept_before q p s ≡ flag s i
      before-is c = rw (copy-place c)

      after-dropped : (cause : ℕ) → not (kept_before q p s) and allowed q features p ≡ false → After s (dropping s cause)
      unfolding when◌then◌else◌
      after-dropped cause none =
          by_cases copy_of
          (λ c.
          let kept : flag s i ≡ true = sym (before-is c) ∙ not-false _ (sym (rw (copy-allowed c) (and-true _)) ∙ none) in
          record { flagged = rw (kept, c) (sym (true-or _)); valued = rw kept })
          (λ c. record { flagged = rw c (sym (or-false _)); valued = rw c (sym (if-same (flag s i) _)) })

      after_kept : kept_before q p s ≡ false → allowed q features p ≡ true → After s (done q Kept p s)
      unfolding when◌then◌else◌
      after_kept free a =
          by_cases copy_of
          (λ c.
          let place = copy-place c in
          let clear : flag s i ≡ false = sym (before-is c) ∙ free in
          let size = sized-at i a place in
          let set-flag : get_or (set s.kept i 1) i 0 ≡ 1 = get_or-set_same s.kept i 1 0 (omega (arith, h.kept)) in
          let there = own_value i below p.value s.values size h.values in
          rw place (record { flagged = rw (set-flag, c) (sym (or-true _)); valued = rw (clear, c) there }))
          (λ c.
          allowed-place a
          (λ j place.
          let other = other_place j a c place in
          let f = place_found q p.part_type p.selector j place in
          let kept_on : get_or (set s.kept j 1) i 0 ≡ get_or s.kept i 0 = get_or-set_other s.kept j i 1 0 other in
          let size = sized-at j a place in
          let on = other-value j f.below p.value s.values size i below other in
          rw place (record { flagged = rw (kept_on, c) (sym (or-false _)); valued = on ∙ rw c (sym (if-same (flag s i) _)) })))

      taken-row : After s (taken q features p s)
      taken-row =
          rw (taken-fate q p s features)
          (fate-cases q features (kept_before q p s) p (λ f. After s (done q f p s)) (λ cause few. after-dropped cause) after_kept)

      pub taken-flag : flag (taken q features p s) i ≡ flag s i or copy_of
      taken-flag = taken-row.flagged

-- ---- all parts ----

module _ (q : ℕ) (features : List ℕ) (i : ℕ) (below : i < row_count) where
  abbrev t : ℕ
  t = (row_at i).part_type

  abbrev v : ℕ
  v = (row_at i).selector

  pub walked-flag : (ps : PartList) (s : State) (n : ℕ) → Sized n s → flag (walked q features ps s) i ≡ flag s i or is_kept q features t v ps
  unfolding walked is_kept
  walked-flag end s n h = sym (or-false _)
  walked-flag cut s n h = sym (or-false _)
  walked-flag (part p ps) s n h =
      walked-flag ps (taken q features p s) (n + 1) (taken-sized q n features p s h)
      ∙ rw (taken-flag q features p i below s n h) (or_assoc _ _ _)

  pub walked-value : (ps : PartList) (s : State) (n : ℕ) → Sized n s
      → value_of (walked q features ps s).values i ≡ (when flag s i then value_of s.values i else kept_or q features t v (value_of s.values i) ps)
  unfolding walked kept_or when◌then◌else◌ ◌or◌
  walked-value end s n h = sym (if-same (flag s i) _)
  walked-value cut s n h = sym (if-same (flag s i) _)
  walked-value (part p ps) s n h =
      let a = taken-row q features p i below s n h in
      walked-value ps (taken q features p s) (n + 1) (taken-sized q n features p s h)
      ∙ rw (a.flagged, a.valued) (choose (flag s i) (is_copy q features t v p) ps (value_of s.values i) p.value)
    where
      choose : (a c : Bool) (ps : PartList) (x y : List ℕ)
          → (when a or c then when a then x else when c then y else x else kept_or q features t v (when a then x else when c then y else x) ps)
          ≡ (when a then x else when c then y else kept_or q features t v x ps)
      choose true c ps x y = refl
      choose false true ps x y = refl
      choose false false ps x y = refl
