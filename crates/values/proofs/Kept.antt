-- What a card store and a list leave as it was: the length of the values, the device features, and that queues have allowed
-- values. Assumes nothing.
use mathlib.Core.Path.{◌≡◌, refl, ◌∙◌}
use mathlib.Core.Bool.{true}
use mathlib.Core.List.{List}
use Prim.Native.Nat.{ℕ, ◌<◌}
use native.Mathlib.Omega.{arith}
use borrow.Author.Tests.{lt-ltb, ltb-true, eq-eqb, eqb-true, eqb-false}
use lib.Dec.{ltb, eqb}
use lib.ListN.{length}
use Rattle.std.specs.Prelude.{Ok, Err, is_ok, Option, Some, None}
use Rattle.theory.specs.Logic.{when◌then◌else◌, unless◌answer◌then◌, ◌and◌}
use Rattle.theory.specs.Bytes.{bytes_at, put}
use Rattle.theory.proofs.Tests.{by_cases, if-cases, unless-cases, both, and_i}
use Rattle.theory.proofs.Bytes.{length-put, bytes_at-before}
use Rattle.inventory.proofs.Values.{own_value, other-value}
use Rattle.protocol.specs.declared.EventRefusal.TheVariants.{NoPart, WrongLength, BadQueueSize}
use Rattle.protocol.specs.Answers.{EventAnswer}
use Rattle.inventory.specs.Inventory.{features_size, row_at, offset_of, values_size, place_of, on_place}
use Rattle.inventory.specs.Queue.{value_allowed, queues_allowed}
use Rattle.inventory.proofs.Find.{place_found}
use Rattle.inventory.proofs.Rules.{rows_apart, row_zero, offset-zero}
use Rattle.inventory.proofs.Queue.{row-allowed, rows-allowed}
use Rattle.parts.specs.List.{PartList, end, cut, part}
use Rattle.values.specs.Apply.{storable, stored, applied}

module _ (q t s : ℕ) (x v : List ℕ) where
  -- a value is stored in a row after the first, of its length, or nothing is
  pub stored-cases {ℓ} : (P : List ℕ → Type ℓ) → P v
      → ((i : ℕ) → place_of q t s ≡ Some i → 0 < i → length x ≡ (row_at i).size → P (put (offset_of i) x v))
      → P (stored q t s x v)
  unfolding stored
  stored-cases P none some = cases (place_of q t s) refl
    where
      cases : (p : Option ℕ) → place_of q t s ≡ p
          → P (on_place p (λ i. when ltb 0 i and eqb (length x) (row_at i).size then put (offset_of i) x v else v) v)
      cases (Some i) e =
          if-cases P (ltb 0 i and eqb (length x) (row_at i).size) (put (offset_of i) x v) v
          (λ h. let b = both _ _ h in some i e (ltb-true 0 i b.0) (eqb-true _ _ b.1))
          (λ h. none)
      cases None e = none

  pub stored_at : (i : ℕ) → place_of q t s ≡ Some i → 0 < i → length x ≡ (row_at i).size → stored q t s x v ≡ put (offset_of i) x v
  unfolding stored when◌then◌else◌
  stored_at i e h l = rw (e, and_i _ _ (lt-ltb 0 i h) (eq-eqb _ _ l))

  pub stored-length : length (stored q t s x v) ≡ length v
  stored-length = stored-cases (λ w. length w ≡ length v) refl (λ i f h l. length-put (offset_of i) x v)

  -- the rows after the first start where it ends
  pub stored-features : bytes_at 0 features_size (stored q t s x v) ≡ bytes_at 0 features_size v
  stored-features =
      stored-cases (λ w. bytes_at 0 features_size w ≡ bytes_at 0 features_size v) refl
      (λ i f h l. bytes_at-before 0 features_size (offset_of i) x v (rw (offset-zero, row_zero) at (rows_apart 0 (omega arith) i (place_found q t s i f).below h)))

-- a value that is allowed, stored, leaves the queues with allowed ones
pub stored-allowed : (q t s : ℕ) (x v : List ℕ) → length v ≡ values_size → queues_allowed q v ≡ true
    → ((i : ℕ) → place_of q t s ≡ Some i → value_allowed t x ≡ true) → queues_allowed q (stored q t s x v) ≡ true
stored-allowed q t s x v n a ok =
    stored-cases q t s x v (λ w. queues_allowed q w ≡ true) a λ i p h l.
    let f = place_found q t s i p in
    rows-allowed q _ (length-put (offset_of i) x v ∙ n) λ j b y.
    by_cases (eqb j i)
    (λ e. rw (eqb-true j i e, own_value i f.below x v l n, f.type-is) (ok i p))
    (λ e. rw (other-value i f.below x v l j b (eqb-false j i e)) (row-allowed q v a j b y))

-- a value whose store is done is allowed
pub done-allowed : (q t s : ℕ) (x : List ℕ) → is_ok (storable q t s x) ≡ true → value_allowed t x ≡ true
unfolding storable
done-allowed q t s x = cases (place_of q t s)
  where
    Says : EventAnswer → Type 0
    Says a = is_ok a ≡ true → value_allowed t x ≡ true

    cases : (p : Option ℕ)
        → Says (on_place p
        (λ i.
        unless ltb 0 i answer Err NoPart then
        unless eqb (length x) (row_at i).size answer Err WrongLength then
        unless value_allowed t x answer Err BadQueueSize then
        Ok tt)
        (Err NoPart))
    cases (Some i) =
        unless-cases Says _ _ _ (λ u e. cc) λ u.
        unless-cases Says _ _ _ (λ u e. cc) λ u.
        unless-cases Says _ _ _ (λ u e. cc) (λ u e. u)
    cases None = λ e. cc

-- what no store changes no list does
applied-keeps : {A : Type 0} (look : List ℕ → A) (q : ℕ)
    → ((t s : ℕ) (x v : List ℕ) → look (stored q t s x v) ≡ look v)
    → (ps : PartList) (v : List ℕ) → look (applied q ps v) ≡ look v
unfolding applied
applied-keeps look q keeps end v = refl
applied-keeps look q keeps cut v = refl
applied-keeps look q keeps (part p ps) v =
    applied-keeps look q keeps ps (stored q p.part_type p.selector p.value v)
    ∙ keeps p.part_type p.selector p.value v

pub applied-length : (q : ℕ) (ps : PartList) (v : List ℕ) → length (applied q ps v) ≡ length v
applied-length q = applied-keeps length q (stored-length q)

pub applied-features : (q : ℕ) (ps : PartList) (v : List ℕ) → bytes_at 0 features_size (applied q ps v) ≡ bytes_at 0 features_size v
applied-features q = applied-keeps (bytes_at 0 features_size) q (stored-features q)
