-- What specs/Claims.antt claims of the pair holds. Assumes nothing.
use mathlib.Core.Path.{◌≡◌, refl, ap, sym, ◌∙◌}
use mathlib.Core.Bool.{true, false}
use mathlib.Core.List.{List, []}
use Prim.Native.Nat.{ℕ, ◌<◌}
use borrow.Author.Tests.{ltb-true}
use lib.Dec.{ltb}
use lib.ListN.{length}
use Rattle.std.specs.Prelude.{Option, Some, None, is_some}
use Rattle.theory.specs.Logic.{unless◌answer◌then◌}
use Rattle.theory.specs.Bytes.{bytes_at}
use Rattle.theory.proofs.Tests.{by_cases, never}
use Rattle.inventory.specs.Inventory.{row_at, row_count, features_size, selector_of, place_of}
use Rattle.inventory.proofs.Rules.{table, every-row}
use Rattle.inventory.proofs.Find.{place_found}
use Rattle.parts.specs.declared.ListForm.TheVariants.{Parts}
use Rattle.parts.specs.List.{at_most, parts_from, parts_of, whole, value_or}
use Rattle.rules.specs.Rules.{known, every, repeated, cause_in, cause_of, is_accepted}
use Rattle.std.specs.Prelude.{Err}
use Rattle.difference.specs.declared.Refusal.{Refusal}
use Rattle.difference.specs.Difference.{Verdict, number_of, place_in, verdict_of, lookup_of, lookup_told, made}
use Rattle.difference.specs.Claims.{Pair, value_found, Claims}
use Rattle.difference.proofs.Full.{full-there}
use Rattle.difference.proofs.Handed.{place-value, number-some, verdict-cases, verdict-refused}
use Rattle.difference.proofs.Made.{looked_up, looked-up, made-sets, pair-accepted, pair-full, pair-long, pair-value, pair-length}
use Rattle.difference.proofs.Verdicts.{Passes, passes, found-there, found-outside, place-done}

-- ---- the part of a row ----

pub known_at : (q t s i : ℕ) → place_of q t s ≡ Some i → known q t s ≡ true
unfolding known
known_at q t s i e = rw e

-- a known part is that of a row
pub by_row {ℓ} : {P : Type ℓ} (q t s : ℕ) → known q t s ≡ true → ((i : ℕ) → place_of q t s ≡ Some i → P) → P
unfolding known
by_row {P = P} q t s k f = cases (place_of q t s) refl k
  where
    cases : (p : Option ℕ) → place_of q t s ≡ p → is_some p ≡ true → P
    cases (Some i) e h = f i e
    cases None e h = never cc

-- ---- a lookup in the pair ----

module _ (q : ℕ) (features full later : List ℕ) (pair : Pair q features full later) where
  found-row : (t s i : ℕ) → place_of q t (selector_of t s) ≡ Some i → value_found q features full later t s ≡ looked_up full later i
  found-row t s i e =
      let r = place_found q t (selector_of t s) i e in
      rw (found-there q features full later pair t s (known_at q t (selector_of t s) i e), r.type-is, r.selector-is)

  name-row : (t s i : ℕ) → place_of q t (selector_of t s) ≡ Some i → (lookup_told (lookup_of q features full later t s)).0 ≡ 0
  name-row t s i e =
      let r = place_found q t (selector_of t s) i e in
      let there = full-there q (parts_of Parts full) pair.lacks_none i r.below r.there in
      rw (found-there q features full later pair t s (known_at q t (selector_of t s) i e))
      (place-done full later t (selector_of t s) (rw (r.type-is, r.selector-is) at there))

-- ---- what is found is not empty ----

size-some : (i : ℕ) → i < row_count → 0 < (row_at i).size
unfolding table
size-some i h = ltb-true _ _ (every-row (λ k r. ltb 0 r.size) refl i h)

module _ (q : ℕ) (features full later : List ℕ) (t s : ℕ) (few : q < 5) where
  abbrev verdict : Verdict
  verdict = verdict_of q features full later (known q t (selector_of t s)) true

  refused-name : (e : Refusal) → verdict ≡ Err e → (lookup_told (lookup_of q features full later t s)).0 ≡ number_of e
  unfolding lookup_of lookup_told
  refused-name e h = ap (λ l. (lookup_told l).0) (verdict-refused verdict Err (place_in full later t (selector_of t s)) e h)

  -- what is found is found in a pair, and known
  pub found-passes : (lookup_told (lookup_of q features full later t s)).0 ≡ 0 → Passes q features full later (known q t (selector_of t s)) true
  found-passes e =
      verdict-cases verdict (λ z. passes q features full later (known q t (selector_of t s)) true few z)
      (λ r h. absurd (number-some r (sym (refused-name r h) ∙ e)))

  pub lookup-pair : (lookup_told (lookup_of q features full later t s)).0 ≡ 0 → Pair q features full later
  lookup-pair e = (found-passes e).pair

  not-empty : (lookup_told (lookup_of q features full later t s)).0 ≡ 0 → 0 < length (value_found q features full later t s)
  not-empty e =
      let p = found-passes e in
      by_row q t (selector_of t s) p.inside
      (λ i r.
      let f = place_found q t (selector_of t s) i r in
      rw (found-row q features full later p.pair t s i r, pair-length q features full later p.pair i f.below f.there)
      (size-some i f.below))

-- ---- the made list as a full capture ----

-- the empty list is accepted
empty-accepted : (q : ℕ) (features : List ℕ) → is_accepted (cause_of q features []) ≡ true
unfolding cause_in parts_from at_most whole every repeated unless◌answer◌then◌
empty-accepted q features = refl

empty-value : (t s : ℕ) (y : List ℕ) → value_or t s (parts_of Parts []) y ≡ y
unfolding parts_from at_most value_or
empty-value t s y = refl

module _ (q : ℕ) (features full later : List ℕ) (pair : Pair q features full later) where
  abbrev m : List ℕ
  m = made q full later

  made_pair : Pair q features m []
  made_pair =
      record {
        few = pair.few;
        full_accepted = pair-accepted q features full later pair;
        later_accepted = empty-accepted q features;
        lacks_none = pair-full q features full later pair;
      }

  outside : (t s : ℕ) → known q t (selector_of t s) ≡ false → lookup_of q features m [] t s ≡ lookup_of q features full later t s
  outside t s n = found-outside q features m [] made_pair t s n ∙ sym (found-outside q features full later pair t s n)

  same-name : (t s : ℕ) → (lookup_told (lookup_of q features m [] t s)).0 ≡ (lookup_told (lookup_of q features full later t s)).0
  same-name t s =
      by_cases (known q t (selector_of t s))
      (λ k.
      by_row q t (selector_of t s) k
      (λ i e. name-row q features m [] made_pair t s i e ∙ sym (name-row q features full later pair t s i e)))
      (λ n. ap (λ l. (lookup_told l).0) (outside t s n))

  same-value : (t s : ℕ) → value_found q features m [] t s ≡ value_found q features full later t s
  same-value t s =
      by_cases (known q t (selector_of t s))
      (λ k.
      by_row q t (selector_of t s) k
      (λ i e.
      let r = place_found q t (selector_of t s) i e in
      found-row q features m [] made_pair t s i e
      ∙ place-value m [] (row_at i).part_type (row_at i).selector
      ∙ empty-value (row_at i).part_type (row_at i).selector _
      ∙ pair-value q features full later pair i r.below r.there []
      ∙ sym (found-row q features full later pair t s i e)))
      (λ n. rw (found-outside q features m [] made_pair t s n, found-outside q features full later pair t s n))

-- ---- all of them ----

pub claims : Claims
claims =
    record {
      not_empty = λ q features full later t s few. not-empty q features full later t s few;
      made_is_full = λ q features full later pair.
          record {
            accepted = pair-accepted q features full later pair;
            lacks_none = pair-full q features full later pair;
            size = pair-long q features full later pair;
            same_name = same-name q features full later pair;
            same_value = same-value q features full later pair;
          };
      sets_both = λ q full later values long pair.
          record {
            same = made-sets q full later values long pair;
            found = λ t s i e.
                let r = place_found q t (selector_of t s) i e in
                found-row q (bytes_at 0 features_size values) full later pair t s i e
                ∙ looked-up q full later values long pair i r.below r.there;
          };
    }
