-- The walk of check_list, in which the parts that are left decide the cause of the whole list. Assumes nothing.
use mathlib.Core.Path.{◌≡◌, ap, sym, ◌∙◌}
use mathlib.Core.Bool.{Bool, true, false}
use mathlib.Core.List.{List}
use Prim.Native.Nat.{ℕ}
use borrow.Author.Tests.{eqb-true}
use lib.Dec.{eqb}
use lib.ListN.{get_or, set}
use Rattle.std.specs.Prelude.{Some, None, Result, Ok, Err}
use Rattle.theory.specs.Logic.{unless◌answer◌then◌}
use Rattle.theory.proofs.Tests.{by_cases, true-or, false-or}
use Rattle.theory.specs.Bytes.{same}
use Rattle.inventory.specs.Inventory.{row_at, device_features, selector_of, place_of}
use Rattle.inventory.specs.Queue.{value_allowed}
use Rattle.inventory.proofs.Rules.{table}
use Rattle.parts.specs.List.{Part, PartList, end, cut, part, part_with, whole}
use Rattle.rules.specs.declared.Cause.{Cause}
use Rattle.rules.specs.declared.Cause.TheVariants.{Cut}
use Rattle.rules.specs.Rules.{known, known_or_skipped, length_right, size_right, features_same, every, repeated, cause_in}
use Rattle.rules.specs.PartCauses.{checked, absent_checked, row_checked, first_of, decided}
use Rattle.rules.proofs.Seen.{none, place, is_seen, with_seen, seen_again, repeated-is}
use Rattle.rules.proofs.PartCauses.{first-assoc, checked-both, first-ok, decided-by}

-- ---- what is left ----

-- with the rows seen, and the first cause so far, the parts that are left decide the cause; d: a part of the list is named twice
unfoldable pub cause_left : ℕ → List ℕ → Bool → Result (Unit {0}) Cause → List Bool → PartList → Result (Unit {0}) Cause
cause_left q features d found seen ps =
    unless whole ps answer Err Cut then
    decided (first_of found
    (checked (every (known_or_skipped q) ps) (every (length_right q) ps) (every (size_right q) ps) (every (features_same features) ps)
    (seen_again q seen ps))) d

pub cause-start : (q : ℕ) (features : List ℕ) (ps : PartList) → cause_in q features ps ≡ cause_left q features (repeated q ps) (Ok tt) none ps
unfolding cause_in cause_left
cause-start q features ps = rw (repeated-is q ps) (decided-by _ _ _ _ _ _)

-- ---- one part ----

abbrev part_checked : ℕ → List ℕ → List Bool → Part → Result (Unit {0}) Cause
part_checked q features seen p =
    checked (known_or_skipped q p) (length_right q p) (size_right q p) (features_same features p) (is_seen seen (place q p))

cause-part : (q : ℕ) (features : List ℕ) (d : Bool) (found : Result (Unit {0}) Cause) (seen : List Bool) (p : Part) (ps : PartList)
    → cause_left q features d found seen (part p ps)
    ≡ cause_left q features d (first_of found (part_checked q features seen p)) (with_seen seen (place q p)) ps
unfolding cause_left whole every seen_again
cause-part q features d found seen p ps = rw (← checked-both, first-assoc)

module _ (q t s f : ℕ) (v features : List ℕ) (seen : List Bool) where
  absent-is : place_of q t s ≡ None → eqb t device_features ≡ false → part_checked q features seen (part_with t f s v) ≡ absent_checked t f
  unfolding absent_checked known known_or_skipped length_right size_right features_same
  absent-is e h = rw (e, h, false-or, true-or (value_allowed t v), true-or (same v features))

  row-is : (i : ℕ) → place_of q t s ≡ Some i
      → part_checked q features seen (part_with t f s v) ≡ row_checked (row_at i).size (get_or seen i false) t v features
  unfolding row_checked known known_or_skipped length_right size_right features_same
  row-is i e = rw (e, true-or, false-or)

-- ---- an absent part is not the device features: their selector is none, and every member has them ----

other-type : (q t s n : ℕ) → s ≡ selector_of t n → place_of q t s ≡ None → eqb t device_features ≡ false
unfolding table
other-type q t s n e h =
    by_cases (eqb t device_features)
    (λ y. let z : Some 0 ≡ None = rw (e, eqb-true t device_features y) at h in cc)
    (λ y. y)

-- ---- the walk: x is the cause of the whole list, ps are the parts left ----

module _ (q : ℕ) (features : List ℕ) (d : Bool) (found : Result (Unit {0}) Cause) (seen : List Bool) {x : Result (Unit {0}) Cause} {ps : PartList}
    (e : x ≡ cause_left q features d found seen ps) where
  pub cause-end : ps ≡ end → decided found d ≡ x
  unfolding cause_left whole every seen_again unless◌answer◌then◌ checked
  cause-end i = sym (e ∙ rw i (ap (λ c. decided c d) (first-ok found)))

  pub cause-cut : ps ≡ cut → Err Cut ≡ x
  unfolding cause_left whole unless◌answer◌then◌
  cause-cut i = sym (e ∙ rw i)

  -- the first of them, and the first_of found with that of this part, k
  module _ (t f s : ℕ) (v : List ℕ) {qs : PartList} (first : ps ≡ part (part_with t f s v) qs) (k : Result (Unit {0}) Cause) where
    pub cause-absent : (m : ℕ) → s ≡ selector_of t m → place_of q t s ≡ None → k ≡ absent_checked t f
        → x ≡ cause_left q features d (first_of found k) seen qs
    cause-absent m y p h =
        e ∙ rw (first, cause-part, absent-is q t s f v features seen p (other-type q t s m y p), p, ← h)

    pub cause-row : (i : ℕ) → place_of q t s ≡ Some i → k ≡ row_checked (row_at i).size (get_or seen i false) t v features
        → x ≡ cause_left q features d (first_of found k) (set seen i true) qs
    cause-row i p h = e ∙ rw (first, cause-part, row-is q t s f v features seen i p, p, ← h)
