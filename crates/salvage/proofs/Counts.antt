-- What the walk counts: the parts that are dropped for each cause, where the flags say which rows the parts before it keep.
-- Assumes nothing.
use mathlib.Core.Path.{◌≡◌, refl, ap, sym, ◌∙◌}
use mathlib.Core.List.{List}
use Prim.Native.Nat.{ℕ, ◌+◌, ◌<◌}
use native.Mathlib.Nat.{add-zero}
use native.Mathlib.Omega.{arith}
use borrow.Author.Tests.{eqb-true, eqb-false}
use lib.Dec.{eqb}
use lib.ListN.{length, get_or}
use lib.Seq.{get_or-set_same, get_or-set_other}
use Rattle.std.specs.Prelude.{Option, Some, None}
use Rattle.theory.specs.Logic.{unless◌answer◌then◌, indicator}
use Rattle.theory.proofs.Tests.{by_cases, or_comm}
use Rattle.inventory.specs.Inventory.{row_at, row_count, place_of, on_place}
use Rattle.inventory.proofs.Find.{place_found}
use Rattle.parts.specs.List.{Part, PartList, end, cut, part}
use Rattle.rules.specs.Rules.{known}
use Rattle.salvage.specs.Salvage.{is_kept, fate_of, is_dropped, dropped_from}
use Rattle.salvage.specs.Walk.{State, counted, keeping, taken, walked, Sized}
use Rattle.salvage.proofs.Fates.{flag, kept_before, done, taken-fate, taken-sized}
use Rattle.salvage.proofs.Rows.{fate-cases, taken-flag}

counted_is : (d : List ℕ) (c cause : ℕ) → c < length d → get_or (counted d c) cause 0 ≡ get_or d cause 0 + indicator (eqb c cause)
unfolding indicator
counted_is d c cause h =
    by_cases (eqb c cause)
    (λ e. rw (e, ← eqb-true c cause e) (get_or-set_same d c (get_or d c 0 + 1) 0 h))
    (λ e. rw (e, add-zero) (get_or-set_other d c cause (get_or d c 0 + 1) 0 (λ z. eqb-false c cause e (sym z))))

module _ (q : ℕ) (features : List ℕ) where
  -- the flags are those of these parts
  abbrev Says : State → PartList → Type 0
  Says s before = (i : ℕ) → i < row_count → flag s i ≡ is_kept q features (row_at i).part_type (row_at i).selector before

  fate-said : (before : PartList) (p : Part) (s : State) → Says s before
      → fate_of q features (kept_before q p s) p ≡ fate_of q features (is_kept q features p.part_type p.selector before) p
  unfolding fate_of known unless◌answer◌then◌
  fate-said before p s says = cases (place_of q p.part_type p.selector) refl
    where
      cases : (r : Option ℕ) → place_of q p.part_type p.selector ≡ r
          → fate_of q features (kept_before q p s) p ≡ fate_of q features (is_kept q features p.part_type p.selector before) p
      cases (Some j) e =
          let f = place_found q p.part_type p.selector j e in
          let b : kept_before q p s ≡ is_kept q features p.part_type p.selector before =
          rw e (says j f.below ∙ rw (f.type-is, f.selector-is)) in
          ap (λ x. fate_of q features x p) b
      cases None e = rw e

  -- ---- one part ----

  taken-count : (p : Part) (s : State) (n cause : ℕ) → Sized n s
      → get_or (taken q features p s).dropped cause 0 ≡ get_or s.dropped cause 0 + indicator (is_dropped cause (fate_of q features (kept_before q p s) p))
  unfolding indicator
  taken-count p s n cause h =
      rw (taken-fate q p s features)
      (fate-cases q features (kept_before q p s) p
      (λ f. get_or (done q f p s).dropped cause 0 ≡ get_or s.dropped cause 0 + indicator (is_dropped cause f))
      (λ c few none. counted_is s.dropped c cause (omega (arith, h.dropped)))
      (λ free a. keeps (place_of q p.part_type p.selector)))
    where
      keeps : (r : Option ℕ) → get_or (on_place r (λ i. keeping s i p.value) s).dropped cause 0 ≡ get_or s.dropped cause 0 + 0
      keeps (Some i) = sym (add-zero _)
      keeps None = sym (add-zero _)

  -- ---- all parts ----

  pub walked-count : (cause : ℕ) (before ps : PartList) (s : State) (n : ℕ) → Sized n s → Says s before
      → get_or (walked q features ps s).dropped cause 0 ≡ get_or s.dropped cause 0 + dropped_from q features cause before ps
  unfolding walked dropped_from is_kept
  walked-count cause before end s n h says = sym (add-zero _)
  walked-count cause before cut s n h says = sym (add-zero _)
  walked-count cause before (part p ps) s n h says =
      let here = rw (fate-said before p s says) at (taken-count p s n cause h) in
      let after = walked-count cause (part p before) ps (taken q features p s) (n + 1) (taken-sized q n features p s h)
      (λ i l. taken-flag q features p i l s n h ∙ or_comm _ _ ∙ rw (says i l)) in
      omega arith
