-- A number as decimal digits, and a line of the sheet: 02, request 11. Assumes nothing.
use Rattle.std.specs.Prelude.{List, [], ◌∷◌, ◌++◌, ℕ, zero, suc, ◌+◌, ◌/◌, ◌%◌, ltb}
use Rattle.theory.specs.Logic.{when◌then◌else◌}

-- the last digit, as a character
abbrev pub last_digit : ℕ → ℕ
last_digit n = 48 + n % 10

-- the digits without leading zeros: those of the tenth part, and the last one. At most f + 1 of them
unfoldable pub digits : ℕ → ℕ → List ℕ
digits zero n = last_digit n ∷ []
digits (suc f) n = when ltb n 10 then last_digit n ∷ [] else digits f (n / 10) ++ (last_digit n ∷ [])

-- no number has more digits than it is, but 0, which has one
unfoldable pub decimal : ℕ → List ℕ
decimal n = digits n n

-- a name, a space, a number, a line feed
unfoldable pub line : List ℕ → ℕ → List ℕ
line name n = name ++ (32 ∷ (decimal n ++ (10 ∷ [])))
