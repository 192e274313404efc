-- What a list that is accepted leaves in each row: the list's value where it has one, else what was there. Assumes nothing.
use mathlib.Core.Path.{◌≡◌, refl, sym, ◌∙◌}
use mathlib.Core.Bool.{true, false}
use mathlib.Core.List.{List}
use Prim.Native.Nat.{ℕ, ◌<◌}
use native.Mathlib.Omega.{arith}
use borrow.Author.Tests.{eqb-true, eq-eqb, ltb-true, ltb-false}
use lib.Dec.{eqb, ltb}
use lib.ListN.{length}
use Rattle.std.specs.Prelude.{Some}
use Rattle.theory.specs.Logic.{◌and◌}
use Rattle.theory.specs.Bytes.{bytes_at, same}
use Rattle.theory.proofs.Tests.{by_cases, both, and_i, true-and, false-or, same_true, never, neither}
use Rattle.inventory.proofs.Values.{own_value, other-value}
use Rattle.inventory.specs.Inventory.{row_at, row_count, device_features, features_size, present, values_size, place_of, value_of}
use Rattle.inventory.proofs.Rules.{row_zero, offset-zero}
use Rattle.inventory.proofs.Find.{Found, place_found, own-place}
use Rattle.parts.specs.List.{Part, PartList, end, cut, part, among, value_or}
use Rattle.rules.specs.Rules.{known, length_right, features_same, every, repeated}
use Rattle.rules.proofs.Accepted.{Accepts}
use Rattle.values.specs.Apply.{stored, applied}
use Rattle.values.proofs.Kept.{stored-cases, stored_at, stored-length, applied-features}
use Rattle.restore.proofs.PartValues.{value-here, value_on, value_none}

-- row i's value in a list, or y
abbrev pub row_value : ℕ → PartList → List ℕ → List ℕ
row_value i ps y = value_or (row_at i).part_type (row_at i).selector ps y

-- ---- one store ----

-- a row that a part does not name is as it was
stored_other : (q t s : ℕ) (x v : List ℕ) (i : ℕ) → i < row_count → (Found q t s i → ⊥) → value_of (stored q t s x v) i ≡ value_of v i
stored_other q t s x v i h other =
    stored-cases q t s x v (λ w. value_of w i ≡ value_of v i) refl
    (λ j p z l. let f = place_found q t s j p in other-value j f.below x v l i h (λ e. other (rw e f)))

-- ---- a list ----

-- a row that the member has not got is as it was
pub applied-absent : (q i : ℕ) → i < row_count → present q (row_at i) ≡ false → (ps : PartList) (v : List ℕ)
    → value_of (applied q ps v) i ≡ value_of v i
unfolding applied
applied-absent q i h n end v = refl
applied-absent q i h n cut v = refl
applied-absent q i h n (part p ps) v =
    applied-absent q i h n ps _
    ∙ stored_other q p.part_type p.selector p.value v i h
    (λ f. never (cc f.there))

-- device features in a list are those given
pub features-found : (features : List ℕ) (s : ℕ) (ps : PartList) → every (features_same features) ps ≡ true
    → value_or device_features s ps features ≡ features
unfolding every features_same value_or
features-found features s end e = refl
features-found features s cut e = refl
features-found features s (part p ps) e =
    let b = both _ _ e in
    by_cases (eqb p.part_type device_features and eqb p.selector s)
    (λ y.
    let n = both _ _ y in
    let x : same p.value features ≡ true = sym (false-or _) ∙ rw n.0 at b.0 in
    value-here device_features s p ps features (eqb-true _ _ n.0) (eqb-true _ _ n.1) ∙ same_true _ _ x)
    (λ n. value_on device_features s p ps features n ∙ features-found features s ps b.1)

-- of a row that the member has
module _ (q i : ℕ) (few : q < 5) (h : i < row_count) (y : present q (row_at i) ≡ true) where
  place : place_of q (row_at i).part_type (row_at i).selector ≡ Some i
  place = own-place q i few h y

  known_at : (t s : ℕ) → place_of q t s ≡ Some i → known q t s ≡ true
  unfolding known
  known_at t s e = rw e

  sized-at : (p : Part) → place_of q p.part_type p.selector ≡ Some i → length_right q p ≡ true → length p.value ≡ (row_at i).size
  unfolding length_right
  sized-at p e l = eqb-true _ _ (rw e at l)

  later-at : 0 < i → (ps : PartList) (v : List ℕ) → every (length_right q) ps ≡ true → repeated q ps ≡ false → length v ≡ values_size
      → value_of (applied q ps v) i ≡ row_value i ps (value_of v i)
  unfolding applied every repeated value_or
  later-at z end v e r l = refl
  later-at z cut v e r l = refl
  later-at z (part p ps) v e r l =
      let b = both _ _ e in
      let after = stored q p.part_type p.selector p.value v in
      let o = neither _ _ r in
      let ih = later-at z ps after b.1 o.1 (stored-length q _ _ p.value v ∙ l) in
      by_cases (eqb p.part_type (row_at i).part_type and eqb p.selector (row_at i).selector)
      (λ n.
      let m = both _ _ n in
      let t = eqb-true p.part_type (row_at i).part_type m.0 in
      let s = eqb-true p.selector (row_at i).selector m.1 in
      let at_i : place_of q p.part_type p.selector ≡ Some i = rw (t, s) place in
      let last : among p.part_type p.selector ps ≡ false =
      sym (true-and _) ∙ rw (known_at p.part_type p.selector at_i) at o.0 in
      let size = sized-at p at_i b.0 in
      ih
      ∙ value_none _ _ ps _ (rw (t, s) at last)
      ∙ rw (stored_at q _ _ p.value v i at_i z size) (own_value i h p.value v size l)
      ∙ sym (value-here _ _ p ps _ t s))
      (λ n.
      ih
      ∙ rw (
        value_on _ _ p ps (value_of v i) n,
        stored_other q p.part_type p.selector p.value v i h
            (λ f. never (cc (and_i _ _ (eq-eqb _ _ (sym f.type-is)) (eq-eqb _ _ (sym f.selector-is))))),
      ))

  -- in row i stands what the list has for it, else what stood there; the values have the device features in front
  pub applied-at : (ps : PartList) (v : List ℕ) → length v ≡ values_size → Accepts q (bytes_at 0 features_size v) ps
      → value_of (applied q ps v) i ≡ row_value i ps (value_of v i)
  applied-at ps v l a =
      by_cases (ltb 0 i)
      (λ z. later-at (ltb-true 0 i z) ps v a.sized a.once l)
      (λ z.
      let e : i ≡ 0 = omega (arith, ltb-false 0 i z) in
      rw (e, offset-zero, row_zero) (applied-features q ps v ∙ sym (features-found (bytes_at 0 features_size v) 0 ps a.valued)))
