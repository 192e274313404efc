-- Counts, number by number. Assumes nothing.
use Rattle.std.specs.Prelude.{List, [], ◌∷◌, ℕ, ◌+◌, ◌<◌, get_or}

-- the sum of two lists of numbers, as long as the first
infixl 40 ◌plus◌
unfoldable pub ◌plus◌ : List ℕ → List ℕ → List ℕ
[] plus ys = []
(x ∷ xs) plus [] = x ∷ xs
(x ∷ xs) plus (y ∷ ys) = (x + y) ∷ (xs plus ys)

-- every number is below n, so that sums do not overflow
pub record Below (n : ℕ) (counts : List ℕ) : Type 0 where
  pub at : (i : ℕ) → get_or counts i 0 < n
