-- The laws of `plus` and `Below`. Assumes nothing.
use mathlib.Core.Path.{◌≡◌, refl, ap}
use mathlib.Core.List.{List, [], ◌∷◌, ◌++◌}
use Prim.Native.Nat.{ℕ, zero, suc, ◌+◌, ◌≤◌}
use native.Mathlib.Nat.{add-zero, add_assoc}
use native.Mathlib.Omega.{arith}
use lib.ListN.{length, get_or, set, replicate}
use Rattle.tally.specs.Counts.{◌plus◌, Below}

pub length-plus : (a b : List ℕ) → length (a plus b) ≡ length a
unfolding ◌plus◌
length-plus [] b = refl
length-plus (x ∷ a) [] = refl
length-plus (x ∷ a) (y ∷ b) = ap suc (length-plus a b)

pub plus_assoc : (a b c : List ℕ) → length c ≤ length b → (a plus b) plus c ≡ a plus (b plus c)
unfolding ◌plus◌
plus_assoc [] b c h = refl
plus_assoc (x ∷ a) [] [] h = refl
plus_assoc (x ∷ a) [] (z ∷ c) h = absurd (omega arith)
plus_assoc (x ∷ a) (y ∷ b) [] h = refl
plus_assoc (x ∷ a) (y ∷ b) (z ∷ c) h = rw (add_assoc, plus_assoc a b c (omega arith))

pub plus-zeros : (a : List ℕ) (n : ℕ) → a plus replicate n 0 ≡ a
unfolding ◌plus◌
plus-zeros [] n = refl
plus-zeros (x ∷ a) zero = refl
plus-zeros (x ∷ a) (suc n) = rw (add-zero, plus-zeros a n)

-- the number at a place
pub at-plus : (a b : List ℕ) (i : ℕ) → get_or (a plus b) i 0 ≤ get_or a i 0 + get_or b i 0
unfolding ◌plus◌
at-plus [] b i = omega arith
at-plus (x ∷ a) [] i = omega arith
at-plus (x ∷ a) (y ∷ b) zero = omega arith
at-plus (x ∷ a) (y ∷ b) (suc i) = at-plus a b i

pub at_least : (a b : List ℕ) (i : ℕ) → get_or a i 0 ≤ get_or (a plus b) i 0
unfolding ◌plus◌
at_least [] b i = omega arith
at_least (x ∷ a) [] i = omega arith
at_least (x ∷ a) (y ∷ b) zero = omega arith
at_least (x ∷ a) (y ∷ b) (suc i) = at_least a b i

-- one number is raised
pub raised : (a : List ℕ) (k n m : ℕ) → set a k (get_or a k 0 + n) ≡ a plus (replicate k 0 ++ (n ∷ replicate m 0))
unfolding ◌plus◌
raised [] k n m = refl
raised (x ∷ a) zero n m = rw (plus-zeros a m)
raised (x ∷ a) (suc k) n m = rw (add-zero, raised a k n m)

-- ---- all numbers of a list are at most n ----

pub record AtMost (n : ℕ) (b : List ℕ) : Type 0 where
  pub at : (i : ℕ) → get_or b i 0 ≤ n

pub none_more : (n : ℕ) → AtMost n []
none_more n = record { at = λ i. omega arith }

pub one_more : (n x : ℕ) (b : List ℕ) → x ≤ n → AtMost n b → AtMost n (x ∷ b)
one_more n x b h w = record { at = λ i. cases i }
  where
    cases : (i : ℕ) → get_or (x ∷ b) i 0 ≤ n
    cases zero = h
    cases (suc i) = w.at i

pub zeros-first : (n k : ℕ) (b : List ℕ) → AtMost n b → AtMost n (replicate k 0 ++ b)
zeros-first n zero b w = w
zeros-first n (suc k) b w = one_more n 0 (replicate k 0 ++ b) (omega arith) (zeros-first n k b w)

pub below-plus : (n m k : ℕ) (a b : List ℕ) → Below n a → AtMost m b → n + m ≤ k → Below k (a plus b)
below-plus n m k a b v w h = record { at = λ i. omega (arith, at-plus a b i, v.at i, w.at i) }

pub below_more : (n k : ℕ) (a : List ℕ) → Below n a → n ≤ k → Below k a
below_more n k a v h = record { at = λ i. omega (arith, v.at i) }
