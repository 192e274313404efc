-- Sums of numbers by their index: how long items are together, and a loop that adds up. Assumes nothing.
use mathlib.Core.Path.{◌≡◌, refl}
use mathlib.Core.List.{List}
use Prim.Native.Nat.{ℕ, zero, suc, ◌+◌, ◌*◌, ◌-◌, ◌≤◌, ◌<◌}
use native.Mathlib.Nat.{zero-add, sub-zero}
use native.Mathlib.Omega.{arith}
use lib.ListN.{length, length-append}
use Rattle.theory.specs.Items.{items_from}

-- k numbers from the i-th on
unfoldable pub sum_from : (ℕ → ℕ) → ℕ → ℕ → ℕ
sum_from f zero i = 0
sum_from f (suc k) i = f i + sum_from f k (i + 1)

sum_step : (f : ℕ → ℕ) (n i : ℕ) → i < n → sum_from f (n - i) i ≡ f i + sum_from f (n - (i + 1)) (i + 1)
unfolding sum_from
sum_step f n i h = let e : n - i ≡ suc (n - (i + 1)) = omega arith in rw e

sum-end : (f : ℕ → ℕ) (n i : ℕ) → n ≤ i → sum_from f (n - i) i ≡ 0
unfolding sum_from
sum-end f n i h = let e : n - i ≡ 0 = omega arith in rw e

-- items are as long as their lengths together
pub length-items : (item : ℕ → List ℕ) (f : ℕ → ℕ) (n k i : ℕ) → i + k ≡ n → ((j : ℕ) → j < n → length (item j) ≡ f j)
    → length (items_from item k i) ≡ sum_from f k i
unfolding sum_from items_from
length-items item f n zero i e l = refl
length-items item f n (suc k) i e l =
    rw (length-append, l i (omega arith), length-items item f n k (i + 1) (omega arith) l)

-- numbers that are the same one by one
pub sums_same : (f g : ℕ → ℕ) (n k i : ℕ) → i + k ≡ n → ((j : ℕ) → j < n → f j ≡ g j) → sum_from f k i ≡ sum_from g k i
unfolding sum_from
sums_same f g n zero i e s = refl
sums_same f g n (suc k) i e s = rw (s i (omega arith), sums_same f g n k (i + 1) (omega arith) s)

-- the same number k times
pub sum_same : (x k i : ℕ) → sum_from (λ j. x) k i ≡ k * x
unfolding sum_from
sum_same x zero i = omega arith
sum_same x (suc k) i = omega (arith, sum_same x k (i + 1))

-- a loop that adds them up: n is the sum up to the i-th
pub sum-start : (f : ℕ → ℕ) (total : ℕ) → 0 + sum_from f (total - 0) 0 ≡ sum_from f total 0
sum-start f total = rw (zero-add, sub-zero)

module _ (f : ℕ → ℕ) (total n i : ℕ) (e : n + sum_from f (total - i) i ≡ sum_from f total 0) where
  pub sum-on : (x : ℕ) → i < total → x ≡ f i → n + x + sum_from f (total - (i + 1)) (i + 1) ≡ sum_from f total 0
  sum-on x h d = omega (arith, sum_step f total i h)

  pub summed : total ≤ i → n ≡ sum_from f total 0
  summed h = omega (arith, sum-end f total i h)
