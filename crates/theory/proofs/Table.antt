-- A rule of a table: one test that antt computes over all entries gives the rule at each. Assumes nothing.
use mathlib.Core.Path.{◌≡◌}
use mathlib.Core.Bool.{Bool, true}
use mathlib.Core.List.{List, [], ◌∷◌}
use Prim.Native.Nat.{ℕ, zero, suc, ◌+◌, max, ◌^◌, ◌<◌, ◌≤◌}
use native.Mathlib.Nat.{zero-add, add-zero, add-suc, suc-add}
use native.Mathlib.Omega.{arith}
use mir.Syntax.{Width}
use mir.Val.{Fits, bits}
use lib.Dec.{T, ltb, ltb→lt}
use lib.ListN.{length, get_or}
use Rattle.theory.specs.Logic.{◌and◌}
use Rattle.theory.proofs.Tests.{both}

-- f holds of each entry and its place, counted from i
unfoldable pub every : {A : Type 0} → (ℕ → A → Bool) → ℕ → List A → Bool
every f i [] = true
every f i (x ∷ xs) = f i x and every f (suc i) xs

module _ {A : Type 0} (f : ℕ → A → Bool) (d : A) where
  from : (xs : List A) (i : ℕ) → every f i xs ≡ true → (k : ℕ) → k < length xs → f (i + k) (get_or xs k d) ≡ true
  unfolding every
  from [] i t k h = absurd (omega arith)
  from (x ∷ xs) i t zero h = rw add-zero (both _ _ t).0
  from (x ∷ xs) i t (suc k) h = rw (add-suc, ← suc-add) (from xs (suc i) (both _ _ t).1 k (omega arith))

  pub at : (xs : List A) → every f 0 xs ≡ true → (k : ℕ) → k < length xs → f k (get_or xs k d) ≡ true
  at xs t k h = rw zero-add at (from xs 0 t k h)

-- the entries of a table fit a width that holds the largest
abbrev top : List ℕ → ℕ
top [] = 0
top (x ∷ l) = max x (top l)

under_top : (l : List ℕ) (i : ℕ) → get_or l i 0 ≤ top l
under_top [] i = omega arith
under_top (x ∷ l) zero = omega arith
under_top (x ∷ l) (suc i) = omega (arith, under_top l i)

pub entry-fits : (w : Width) (l : List ℕ) (i : ℕ) → T (ltb (top l) (2 ^ bits w)) → Fits w (get_or l i 0)
entry-fits w l i t = record { fits = omega (arith, under_top l i, ltb→lt (top l) (2 ^ bits w) t) }
