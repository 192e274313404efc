-- Case analysis on a test, and the laws of the choices and tests of specs/Logic.antt and of `same`. Assumes nothing.
use mathlib.Core.Path.{◌≡◌, refl, ap, sym}
use mathlib.Core.Bool.{Bool, true, false, not, ◌&&◌}
use mathlib.Core.List.{List, [], ◌∷◌}
use Prim.Native.Nat.{ℕ, ◌+◌, ◌≤◌, ◌<◌}
use native.Mathlib.Numerals.{add-one}
use native.Mathlib.Omega.{arith}
use mir.Val.{bool_byte}
use lib.Dec.{eqb}
use lib.ListN.{length, get_or, drop, drop_of_length-le}
use lib.Seq.{drop-cons}
use borrow.Author.Tests.{ltb-true, ltb-false, leb-true, leb-false, eqb-true, eqb-false, lt-ltb, le-ltb, le-leb, lt-leb, eq-eqb, ne_eqb}
use Rattle.theory.specs.Logic.{when◌then◌else◌, unless◌answer◌then◌, ◌and◌, ◌or◌, within, indicator}
use Rattle.theory.specs.Bytes.{same}

-- ---- cases ----

-- a proof for each value of a test; `rw e` puts the value into the goal
pub by_cases {ℓ} : {P : Type ℓ} (v : Bool) → (v ≡ true → P) → (v ≡ false → P) → P
by_cases true f g = f refl
by_cases false f g = g refl

-- a case that cannot be: `never cc` closes one in which two facts name different constructors
pub never {ℓ} : {P : Type ℓ} → false ≡ true → P
never e = let z : ◌≡◌ {A = ℕ} 0 1 = cc in absurd (omega arith)

-- a fact about a choice follows from the fact about each of the two
pub if-cases {ℓ κ} : {A : Type κ} (P : A → Type ℓ) (v : Bool) (x y : A)
    → (v ≡ true → P x) → (v ≡ false → P y) → P (when v then x else y)
unfolding when◌then◌else◌
if-cases P true x y f g = f refl
if-cases P false x y f g = g refl

pub unless-cases {ℓ κ} : {A : Type κ} (P : A → Type ℓ) (v : Bool) (a rest : A)
    → (v ≡ false → P a) → (v ≡ true → P rest) → P (unless v answer a then rest)
unfolding unless◌answer◌then◌
unless-cases P true a rest f g = g refl
unless-cases P false a rest f g = f refl

-- P holds of what a ladder gave, and not of a step's answer: that step was passed
pub unless-passed {ℓ κ} : {A : Type κ} (P : A → Type ℓ) (v : Bool) (a rest : A)
    → (P a → ⊥) → P (unless v answer a then rest) → (v ≡ true) × P rest
unfolding unless◌answer◌then◌
unless-passed P true a rest n p = (refl, p)
unless-passed P false a rest n p = absurd (n p)

-- two choices that are the same
pub if-same {ℓ} : {A : Type ℓ} (v : Bool) (x : A) → (when v then x else x) ≡ x
unfolding when◌then◌else◌
if-same true x = refl
if-same false x = refl

-- ---- and, or, not ----

pub true-and : (b : Bool) → true and b ≡ b
unfolding ◌and◌
true-and b = refl

pub and-true : (a : Bool) → a and true ≡ a
unfolding ◌and◌
and-true true = refl
and-true false = refl

pub false-and : (b : Bool) → false and b ≡ false
unfolding ◌and◌
false-and b = refl

pub and-false : (a : Bool) → a and false ≡ false
unfolding ◌and◌
and-false true = refl
and-false false = refl

pub and_assoc : (a b c : Bool) → a and b and c ≡ a and (b and c)
unfolding ◌and◌
and_assoc true b c = refl
and_assoc false b c = refl

pub true-or : (b : Bool) → true or b ≡ true
unfolding ◌or◌
true-or b = refl

pub or-true : (a : Bool) → a or true ≡ true
unfolding ◌or◌
or-true true = refl
or-true false = refl

pub false-or : (b : Bool) → false or b ≡ b
unfolding ◌or◌
false-or b = refl

pub or-false : (a : Bool) → a or false ≡ a
unfolding ◌or◌
or-false true = refl
or-false false = refl

pub or_assoc : (a b c : Bool) → a or b or c ≡ a or (b or c)
unfolding ◌or◌
or_assoc true b c = refl
or_assoc false b c = refl

pub or_comm : (a b : Bool) → a or b ≡ b or a
unfolding ◌or◌
or_comm true b = sym (or-true b)
or_comm false b = sym (or-false b)

pub not-and : (a b : Bool) → not a or not b ≡ not (a and b)
unfolding ◌and◌ ◌or◌
not-and true b = refl
not-and false b = refl

pub not-or : (a b : Bool) → not a and not b ≡ not (a or b)
unfolding ◌and◌ ◌or◌
not-or true b = refl
not-or false b = refl

-- the code's `&` of two tests
pub and-bits : (a b : Bool) → (a && b) ≡ a and b
unfolding ◌and◌
and-bits true b = refl
and-bits false b = refl

-- both hold; neither holds
pub both : (a b : Bool) → a and b ≡ true → (a ≡ true) × (b ≡ true)
unfolding ◌and◌
both true b e = (refl, e)
both false b e = (e, cc)

pub neither : (a b : Bool) → a or b ≡ false → (a ≡ false) × (b ≡ false)
unfolding ◌or◌
neither true b e = (e, cc)
neither false b e = (refl, e)

pub and_i : (a b : Bool) → a ≡ true → b ≡ true → a and b ≡ true
and_i a b e f = rw (e, f) (true-and true)

pub or-i : (a b : Bool) → a ≡ false → b ≡ false → a or b ≡ false
or-i a b e f = rw (e, f) (false-or false)

-- one of the two holds; one of the two fails
pub either {ℓ} : {P : Type ℓ} (a b : Bool) → a or b ≡ true → (a ≡ true → P) → (b ≡ true → P) → P
unfolding ◌or◌
either true b e f g = f refl
either false b e f g = g e

pub not-both {ℓ} : {P : Type ℓ} (a b : Bool) → a and b ≡ false → (a ≡ false → P) → (b ≡ false → P) → P
unfolding ◌and◌
not-both true b e f g = g e
not-both false b e f g = f refl

-- ---- numbers: two ends ----

pub inside : (a b n : ℕ) → a ≤ n → n ≤ b → within a b n ≡ true
unfolding within
inside a b n h l = and_i _ _ (le-leb a n h) (le-leb n b l)

pub below : (a b n : ℕ) → n < a → within a b n ≡ false
unfolding within
below a b n h = rw (lt-leb a n h) (false-and _)

pub above : (a b n : ℕ) → b < n → within a b n ≡ false
unfolding within
above a b n h = rw (lt-leb n b h) (and-false _)

pub within_low : (a b n : ℕ) → within a b n ≡ true → a ≤ n
unfolding within
within_low a b n e = leb-true a n (both _ _ e).0

pub within-high : (a b n : ℕ) → within a b n ≡ true → n ≤ b
unfolding within
within-high a b n e = leb-true n b (both _ _ e).1

pub outside {ℓ} : {P : Type ℓ} (a b n : ℕ) → within a b n ≡ false → (n < a → P) → (b < n → P) → P
unfolding within
outside a b n e f g = not-both _ _ e (λ q. f (leb-false a n q)) (λ q. g (leb-false n b q))

-- what a count adds
pub indicator-false : (t : Bool) → t ≡ false → indicator t ≡ 0
unfolding indicator
indicator-false t e = rw e

-- the code's indicator: a bool as a byte
pub bool-byte : (b : Bool) → bool_byte b ≡ indicator b
unfolding indicator
bool-byte true = refl
bool-byte false = refl

pub bool-byte-is : (b d : Bool) → b ≡ d → bool_byte b ≡ indicator d
bool-byte-is b d e = rw (bool-byte b) (ap indicator e)

pub indicator-le : (t : Bool) → indicator t ≤ 1
unfolding indicator
indicator-le true = omega arith
indicator-le false = omega arith

-- `omega tests` reads `leb a b ≡ true`, `within a b n ≡ true` and the like as facts, and proves goals of the first form
pub ruleset tests = (arith, ltb-true, ltb-false, leb-true, leb-false, eqb-true, eqb-false, lt-ltb, le-ltb, le-leb, lt-leb, eq-eqb, ne_eqb, within_low, within-high)

-- ---- the same bytes ----

pub same_true : (a b : List ℕ) → same a b ≡ true → a ≡ b
unfolding same
same_true [] [] e = refl
same_true [] (y ∷ b) e = cc
same_true (x ∷ a) [] e = cc
same_true (x ∷ a) (y ∷ b) e = let p = both _ _ e in rw (eqb-true x y p.0, same_true a b p.1)

pub same_refl : (a : List ℕ) → same a a ≡ true
unfolding same
same_refl [] = refl
same_refl (x ∷ a) = and_i _ _ (eq-eqb x x refl) (same_refl a)

pub eq-same : (a b : List ℕ) → a ≡ b → same a b ≡ true
eq-same a b e = rw e (same_refl b)

pub ne_same : (a b : List ℕ) → (a ≡ b → ⊥) → same a b ≡ false
ne_same a b n = by_cases (same a b) (λ e. absurd (n (same_true a b e))) (λ e. e)

pub same-other-length : (a b : List ℕ) → (length a ≡ length b → ⊥) → same a b ≡ false
same-other-length a b n = ne_same a b (λ e. n (ap length e))

-- one byte more; and none left
pub same_step : (a b : List ℕ) (i : ℕ) → length a ≡ length b → i < length a
    → same (drop i a) (drop i b) ≡ eqb (get_or a i 0) (get_or b i 0) and same (drop (i + 1) a) (drop (i + 1) b)
unfolding same
same_step a b i e h =
    let l : i < length b = omega arith in
    rw (drop-cons a i 0 h, drop-cons b i 0 l, add-one)

pub same-end : (a b : List ℕ) (i : ℕ) → length a ≡ length b → length a ≤ i → same (drop i a) (drop i b) ≡ true
unfolding same
same-end a b i e h =
    let l : length b ≤ i = omega arith in
    rw (drop_of_length-le a h, drop_of_length-le b l)
