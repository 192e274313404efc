-- WHAT IS CLAIMED of the numbers in a sheet: they are exact, the digits of each are its decimal digits, without leading zeros.
-- Assumes nothing.
use Rattle.std.specs.Prelude.{◌≡◌, Bool, true, List, [], ◌∷◌, ℕ, ◌+◌, ◌-◌, ◌*◌, ◌<◌, get_or}
use Rattle.theory.specs.Logic.{◌and◌, within}
use Rattle.decimal.specs.Decimal.{decimal}

unfoldable pub are_digits : List ℕ → Bool
are_digits [] = true
are_digits (d ∷ ds) = within 48 57 d and are_digits ds

-- n, then these digits
unfoldable pub value_from : ℕ → List ℕ → ℕ
value_from n [] = n
value_from n (d ∷ ds) = value_from (10 * n + (d - 48)) ds

pub record Exact (n : ℕ) : Type 0 where
  pub digits : are_digits (decimal n) ≡ true
  pub value : value_from 0 (decimal n) ≡ n
  pub leading : 0 < n → 48 < get_or (decimal n) 0 0

abbrev pub ExactNumbers : Type 0
ExactNumbers = (n : ℕ) → Exact n
