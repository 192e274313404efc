-- The number that an argument is. Assumes nothing.
use Rattle.std.specs.Prelude.{List, [], ◌∷◌, ℕ, ◌+◌, ◌*◌, ◌-◌, leb, Option, Some, None}
use Rattle.theory.specs.Logic.{when◌then◌else◌, ◌and◌, within}

-- decimal digits behind the number n; none at a character that is no digit, and past 999
unfoldable pub number_from : ℕ → List ℕ → Option ℕ
number_from n [] = Some n
number_from n (c ∷ cs) = when within 48 57 c and leb n 99 then number_from (n * 10 + (c - 48)) cs else None

abbrev pub number_of : List ℕ → Option ℕ
number_of text = number_from 0 text
