-- What is kept of a row's part is its first allowed copy, as the claims have it, and what fills a row is what a fresh member has
-- there. Assumes nothing.
use mathlib.Core.Path.{◌≡◌, refl, ap, sym, ◌∙◌}
use mathlib.Core.Bool.{true}
use mathlib.Core.List.{List, ◌++◌}
use Prim.Native.Nat.{ℕ, ◌+◌, ◌-◌, ◌<◌, ◌≤◌}
use native.Mathlib.Omega.{arith}
use borrow.Author.Tests.{eqb-true, eq-eqb}
use lib.Dec.{eqb}
use lib.ListN.{length, replicate}
use lib.Seq.{take_at, drop-append-add}
use Rattle.std.specs.Prelude.{Some}
use Rattle.theory.specs.Logic.{when◌then◌else◌}
use Rattle.theory.specs.Bytes.{bytes_at}
use Rattle.theory.proofs.Tests.{by_cases, never, both, and_i, true-or, or-true, false-or, same_true, eq-same}
use Rattle.theory.proofs.Lists.{take-replicate, drop-replicate}
use Rattle.inventory.specs.Inventory.{row_at, row_count, device_features, features_size, features_row, offset_of, place_of, value_of}
use Rattle.inventory.proofs.Find.{own-place}
use Rattle.inventory.proofs.Rules.{row_zero, offset-zero, row_within, rows_apart, features-row}
use Rattle.inventory.proofs.Values.{features-value}
use Rattle.parts.specs.List.{Part, PartList, end, cut, part}
use Rattle.rules.specs.Rules.{known, length_right, features_same}
use Rattle.member.specs.Member.{fresh_of}
use Rattle.salvage.specs.Salvage.{value_right, allowed, is_copy, kept_or, is_kept, fresh_value}
use Rattle.salvage.specs.Claims.{HasRow}
use Rattle.salvage.specs.Exact.{AllowedCopy, FirstCopy, here, later, fresh_bytes}
use Rattle.salvage.proofs.Rows.{copy-place}

-- ---- the first allowed copy of row i's part ----

module _ (q : ℕ) (features : List ℕ) (few : q < 5) (i : ℕ) (r : HasRow q i) where
  abbrev t : ℕ
  t = (row_at i).part_type

  abbrev s : ℕ
  s = (row_at i).selector

  copy-allowed : (p : Part) → is_copy q features t s p ≡ true → AllowedCopy features i p
  unfolding is_copy allowed length_right value_right features_same
  copy-allowed p c =
      let place = copy-place q features p i r.below c in
      let n = both _ _ (both _ _ c).0 in
      let a = both _ _ (both _ _ (both _ _ c).1).1 in
      let v = both _ _ a.1 in
      record {
        type-is = eqb-true _ _ n.0;
        selector-is = eqb-true _ _ n.1;
        sized = eqb-true _ _ (rw place at a.0);
        ring = v.0;
        own-features = λ e. same_true _ _ (sym (false-or _) ∙ rw (eq-eqb _ _ e) at v.1);
      }

  features-same : (p : Part) → AllowedCopy features i p → features_same features p ≡ true
  unfolding features_same
  features-same p a =
      by_cases (eqb p.part_type device_features)
      (λ e. rw (eq-same p.value features (a.own-features (eqb-true _ _ e))) (or-true _))
      (λ e. rw e (true-or _))

  allowed-copy : (p : Part) → AllowedCopy features i p → is_copy q features t s p ≡ true
  unfolding is_copy allowed known length_right value_right
  allowed-copy p a =
      let place : place_of q p.part_type p.selector ≡ Some i =
      rw (a.type-is, a.selector-is) (own-place q i few r.below r.there) in
      and_i _ _
      (and_i _ _ (eq-eqb _ _ a.type-is) (eq-eqb _ _ a.selector-is))
      (and_i _ _ (rw place) (and_i _ _ (rw place (eq-eqb _ _ a.sized)) (and_i _ _ a.ring (features-same p a))))

  pub kept-first : (x : List ℕ) (ps : PartList) → is_kept q features t s ps ≡ true
      → FirstCopy features i (kept_or q features t s x ps) ps
  unfolding is_kept kept_or when◌then◌else◌
  kept-first x end k = never k
  kept-first x cut k = never k
  kept-first x (part p ps) k =
      by_cases (is_copy q features t s p)
      (λ c. rw c (here (copy-allowed p c) refl))
      (λ c. rw c (later (λ a. never (sym c ∙ allowed-copy p a)) (kept-first x ps (sym (false-or _) ∙ rw c at k))))

  pub first-kept : (y : List ℕ) (ps : PartList) → FirstCopy features i y ps → is_kept q features t s ps ≡ true
  unfolding is_kept
  first-kept y end f = elim f [ ]
  first-kept y cut f = elim f [ ]
  first-kept y (part p ps) (here a e) = rw (allowed-copy p a) (true-or _)
  first-kept y (part p ps) (later n f) = rw (first-kept y ps f) (or-true _)

-- ---- a fresh row ----

-- bytes behind x, where only zeros are
zeros-behind : (x : List ℕ) (k m n : ℕ) → n ≤ m → bytes_at (length x + k) n (x ++ replicate (k + m) 0) ≡ replicate n 0
zeros-behind x k m n h = rw (drop-append-add x (replicate (k + m) 0) k, drop-replicate {A = ℕ} k m 0) (take-replicate n m 0 h)

module _ (features : List ℕ) (sixteen : length features ≡ features_size) (i : ℕ) (h : i < row_count) where
  abbrev v : List ℕ
  v = features ++ replicate 189 0

  -- the device features stand before every other row
  fresh-zeros : 0 < i → value_of v i ≡ replicate (row_at i).size 0
  fresh-zeros z =
      let first = rw (offset-zero, row_zero) at (rows_apart features_row (omega arith) i h z) in
      let ends = row_within i h in
      let at : length features + (offset_of i - 16) ≡ offset_of i = omega arith in
      let rest : offset_of i - 16 + (205 - offset_of i) ≡ 189 = omega arith in
      rw (at, rest) at (zeros-behind features (offset_of i - 16) (205 - offset_of i) (row_at i).size (omega arith))

  pub fresh-is : (q : ℕ) → fresh_value q features i ≡ fresh_bytes features i
  unfolding fresh_value fresh_of when◌then◌else◌
  fresh-is q =
      by_cases (eqb (row_at i).part_type device_features)
      (λ e.
      let first = features-row i h (eqb-true _ _ e) in
      ap (value_of v) first ∙ features-value v ∙ take_at features (replicate 189 0) features_size sixteen ∙ rw e)
      (λ e.
      let other : i ≡ 0 → ⊥ = λ z. never (sym e ∙ rw (z, row_zero)) in
      fresh-zeros (omega (arith, other)) ∙ rw e)
