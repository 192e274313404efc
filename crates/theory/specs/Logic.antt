-- Choices by a test, as the definitions write them. A proof sees into one only where it says `unfolding`, so that a law
-- about one finds its arguments. Assumes nothing.
use Rattle.std.specs.Prelude.{Bool, true, false, ℕ, leb}

infixr 10 when◌then◌else◌
unfoldable pub when◌then◌else◌ {ℓ} : {A : Type ℓ} → Bool → A → A → A
when true then a else b = a
when false then a else b = b

-- a step of a table of refusals: where the test fails this is the answer, else the steps below decide
infixr 10 unless◌answer◌then◌
unfoldable pub unless◌answer◌then◌ {ℓ} : {A : Type ℓ} → Bool → A → A → A
unless true answer a then rest = rest
unless false answer a then rest = a

infixl 35 ◌and◌
unfoldable pub ◌and◌ : Bool → Bool → Bool
true and b = b
false and b = false

infixl 30 ◌or◌
unfoldable pub ◌or◌ : Bool → Bool → Bool
true or b = true
false or b = b

-- n is a number from a to b
unfoldable pub within : ℕ → ℕ → ℕ → Bool
within a b n = leb a n and leb n b

-- 1 where the test holds: what a count adds
unfoldable pub indicator : Bool → ℕ
indicator true = 1
indicator false = 0
