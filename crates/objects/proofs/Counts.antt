-- Counting the bytes of a list, and whether each is at most a number: one byte changed, and what a loop has counted
-- so far. Assumes nothing.
use mathlib.Core.Path.{◌≡◌, refl, ap, sym, ◌∙◌}
use mathlib.Core.Bool.{Bool, true, false}
use mathlib.Core.List.{List, [], ◌∷◌, ◌++◌, map}
use Prim.Native.Nat.{ℕ, zero, suc, ◌+◌, ◌-◌, ◌/◌, ◌%◌, ◌≤◌, ◌<◌}
use native.Mathlib.Omega.{arith}
use lib.Dec.{leb, ltb, eqb}
use native.Mathlib.Numerals.{add-one}
use lib.ListN.{length, get_or, take, drop_of_length-le, drop, set, replicate, length-append, length-replicate}
use lib.Seq.{drop-cons, drop-set-lt, drop-set-add, drop-append-le, take-append-add}
use borrow.Author.Tests.{leb-true, le-leb, ne_eqb}
use Rattle.std.specs.Prelude.{◌&&◌}
use Rattle.std.specs.List.{fold, zip}
use Rattle.theory.specs.Logic.{◌and◌, indicator}
use Rattle.theory.specs.Bytes.{bytes_at}
use Rattle.theory.proofs.Tests.{by_cases, both, and_i, and-true, true-and, and-false, false-and, and_assoc, indicator-false, indicator-le, tests}
use Rattle.theory.proofs.Lists.{take-replicate, drop-replicate}
use Rattle.objects.specs.Objects.{objects_size, count, all_up_to, all_within, most_of, within_limits}

pub map-set : {A B : Type 0} (f : A → B) (l : List A) (i : ℕ) (x : A) → map f (set l i x) ≡ set (map f l) i (f x)
map-set f [] i x = refl
map-set f (y ∷ l) zero x = refl
map-set f (y ∷ l) (suc i) x = ap (f y ∷◌) (map-set f l i x)

-- ---- one byte changed ----

-- a byte that is not v adds nothing to the count of v
pub count_set : (v : ℕ) (bs : List ℕ) (i b : ℕ) → (b ≡ v → ⊥) → count v (set bs i b) ≤ count v bs
unfolding count
count_set v [] i b n = omega arith
count_set v (a ∷ bs) zero b n = omega (arith, indicator-false _ (ne_eqb b v n))
count_set v (a ∷ bs) (suc i) b n = omega (arith, count_set v bs i b n)

pub all_set : (n : ℕ) (bs : List ℕ) (i b : ℕ) → leb b n ≡ true → all_up_to n bs ≡ true → all_up_to n (set bs i b) ≡ true
unfolding all_up_to
all_set n [] i b h e = e
all_set n (a ∷ bs) zero b h e = and_i _ _ h (both _ _ e).1
all_set n (a ∷ bs) (suc i) b h e = let p = both _ _ e in and_i _ _ p.0 (all_set n bs i b h p.1)

-- a byte set to 0 leaves those from k on free
pub all-drop-set : (k : ℕ) (bs : List ℕ) (i : ℕ) → all_up_to 0 (drop k bs) ≡ true → all_up_to 0 (drop k (set bs i 0)) ≡ true
all-drop-set k bs i e =
    by_cases (ltb i k)
    (λ t. let h : i < k = omega tests in rw (drop-set-lt k bs i 0 h) e)
    (λ t. let h : i ≡ k + (i - k) = omega tests in rw (h, drop-set-add k bs (i - k) 0) (all_set 0 (drop k bs) (i - k) 0 refl e))

pub all_drop : (n k : ℕ) (bs : List ℕ) → all_up_to n bs ≡ true → all_up_to n (drop k bs) ≡ true
unfolding all_up_to
all_drop n zero bs e = e
all_drop n (suc k) [] e = e
all_drop n (suc k) (b ∷ bs) e = all_drop n k bs (both _ _ e).1

-- no more of each, so within the same limits
pub limits-set : (gets sets : ℕ) (bs : List ℕ) (i : ℕ) → within_limits gets sets bs ≡ true → within_limits gets sets (set bs i 0) ≡ true
unfolding within_limits
limits-set gets sets bs i e =
    let p = both _ _ e in
    and_i _ _
    (le-leb _ gets (omega (arith, count_set 1 bs i 0 (omega arith), leb-true _ gets p.0)))
    (le-leb _ sets (omega (arith, count_set 2 bs i 0 (omega arith), leb-true _ sets p.1)))

-- no object is live
pub none-live : all_up_to 0 (replicate objects_size 0) ≡ true
unfolding all_up_to ◌and◌
none-live = refl

pub none-counted : (gets sets : ℕ) → within_limits gets sets (replicate objects_size 0) ≡ true
unfolding within_limits count indicator
none-counted gets sets = and_i _ _ (le-leb 0 gets (omega arith)) (le-leb 0 sets (omega arith))

-- ---- a loop that counts ----

-- n of the first i bytes are v
module _ (v : ℕ) (bs : List ℕ) (i n : ℕ) (e : count v bs ≡ n + count v (drop i bs)) where
  pub count-on : (h : ℕ) → h ≡ indicator (eqb (get_or bs i 0) v) → i < length bs → count v bs ≡ (n + h) + count v (drop (i + 1) bs)
  unfolding count
  count-on h q a =
      let x : count v (drop i bs) ≡ h + count v (drop (i + 1) bs) = rw (drop-cons bs i 0 a, add-one i, q) in
      omega arith

  pub counted : length bs ≤ i → n ≡ count v bs
  unfolding count
  counted a =
      let z : count v (drop i bs) ≡ 0 = rw (drop_of_length-le bs a) in
      omega arith

-- of 0, 1 and 2 the remainder by 2 is 1 for 1 alone, and the quotient for 2 alone
pub odd-indicator : (b : ℕ) → b ≤ 2 → b % 2 ≡ indicator (eqb b 1)
unfolding indicator
odd-indicator zero h = refl
odd-indicator (suc zero) h = refl
odd-indicator (suc (suc zero)) h = refl
odd-indicator (suc (suc (suc b))) h = omega arith

pub half-indicator : (b : ℕ) → b ≤ 2 → b / 2 ≡ indicator (eqb b 2)
unfolding indicator
half-indicator zero h = refl
half-indicator (suc zero) h = refl
half-indicator (suc (suc zero)) h = refl
half-indicator (suc (suc (suc b))) h = omega arith

pub all-at : (n : ℕ) (bs : List ℕ) (i : ℕ) → all_up_to n bs ≡ true → get_or bs i 0 ≤ n
unfolding all_up_to
all-at n [] i e = omega arith
all-at n (b ∷ bs) zero e = leb-true b n (both _ _ e).0
all-at n (b ∷ bs) (suc i) e = all-at n bs i (both _ _ e).1

pub adds-at-most-one : (t : Bool) (h : ℕ) → h ≡ indicator t → h ≤ 1
adds-at-most-one t h e = rw e (indicator-le t)

-- ---- folds that test each byte ----

and-is : (a b : Bool) → (a && b) ≡ (a and b)
unfolding ◌and◌
and-is true b = refl
and-is false b = refl

fold-up-to : (n : ℕ) (all : Bool) (bs : List ℕ) → fold (λ a b. a && leb b n) all bs ≡ all and all_up_to n bs
unfolding all_up_to
fold-up-to n all [] = sym (and-true all)
fold-up-to n all (b ∷ bs) = fold-up-to n (all && leb b n) bs ∙ rw (and-is all (leb b n), and_assoc)

pub up-to-folded : (n : ℕ) (bs : List ℕ) → fold (λ a b. a && leb b n) true bs ≡ all_up_to n bs
up-to-folded n bs = fold-up-to n true bs ∙ true-and _

fold-within : (all : Bool) (ns bs : List ℕ) → length bs ≡ length ns
    → fold (λ (a : Bool) (p : ℕ × ℕ). a && leb p.0 p.1) all (zip bs ns) ≡ all and all_within ns bs
unfolding all_within
fold-within all [] [] l = sym (and-true all)
fold-within all [] (b ∷ bs) l = absurd (omega arith)
fold-within all (n ∷ ns) [] l = absurd (omega arith)
fold-within all (n ∷ ns) (b ∷ bs) l = fold-within (all && leb b n) ns bs (omega arith) ∙ rw (and-is all (leb b n), and_assoc)

pub within-folded : (ns bs : List ℕ) → length bs ≡ length ns
    → fold (λ (a : Bool) (p : ℕ × ℕ). a && leb p.0 p.1) true (zip bs ns) ≡ all_within ns bs
within-folded ns bs l = fold-within true ns bs l ∙ true-and _

-- ---- both tests at once ----

-- a byte that is 0 is at most 2 too
all-free : (bs : List ℕ) → all_within (replicate (length bs) 0) bs ≡ all_up_to 2 bs and all_up_to 0 bs
unfolding all_within all_up_to
all-free [] = sym (true-and true)
all-free (b ∷ bs) =
    by_cases (leb b 0)
    (λ t. rw (t, le-leb b 2 (omega (arith, leb-true b 0 t)), true-and, true-and, true-and) (all-free bs))
    (λ t. rw (t, false-and, false-and) (sym (and-false _)))

within-most : (ids n : ℕ) (bs : List ℕ) → length bs ≡ ids + n
    → all_within (replicate ids 2 ++ replicate n 0) bs ≡ all_up_to 2 bs and all_up_to 0 (drop ids bs)
unfolding all_within all_up_to
within-most zero n bs h = let e : n ≡ length bs = omega arith in rw e (all-free bs)
within-most (suc ids) n [] h = absurd (omega arith)
within-most (suc ids) n (b ∷ bs) h = rw (within-most ids n bs (omega arith)) (sym (and_assoc _ _ _))

module _ (ids : ℕ) (most : List ℕ) (h : ids ≤ objects_size) (e : most ≡ most_of ids) where
  pub length_most : length most ≡ objects_size
  unfolding most_of
  length_most = rw (e, length-append, length-replicate, length-replicate) (omega arith)

  pub both-tests : (bs : List ℕ) → length bs ≡ objects_size → all_within most bs ≡ all_up_to 2 bs and all_up_to 0 (drop ids bs)
  unfolding most_of
  both-tests bs n = rw e (within-most ids (objects_size - ids) bs (omega arith))

-- a window of the table is that for so many ids
window : (k ids x y : ℕ) → take (ids + k) (drop k (replicate (k + ids) x ++ replicate (k + ids) y)) ≡ replicate ids x ++ replicate k y
window k ids x y =
    let l : k ≤ length (replicate (k + ids) x) = rw length-replicate (omega arith) in
    let t = take-append-add (replicate ids x) (replicate (k + ids) y) k in
    rw (drop-append-le k (replicate (k + ids) x) (replicate (k + ids) y) l, drop-replicate) (rw (length-replicate, take-replicate k (k + ids) y (omega arith)) at t)

pub most-window : (ids at : ℕ) → ids ≤ objects_size → at ≡ objects_size - ids
    → bytes_at at objects_size (replicate objects_size 2 ++ replicate objects_size 0) ≡ most_of ids
unfolding most_of
most-window ids at h e =
    let k : at + ids ≡ objects_size = omega arith in
    let l : ids + at ≡ objects_size = omega arith in
    rw (← e) (rw (k, l) at (window at ids 2 0))
