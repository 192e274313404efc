-- Little-endian numbers: SPEC 3.1. Assumes nothing.
use Rattle.std.specs.Prelude.{List, [], ◌∷◌, ℕ, zero, suc, ◌+◌, ◌*◌, ◌/◌, ◌%◌}
use Rattle.theory.specs.Bytes.{bytes_at}

-- the number that bytes are, the lowest first
unfoldable pub le : List ℕ → ℕ
le [] = 0
le (b ∷ bs) = b + 256 * le bs

-- the n low bytes of a number, the lowest first
unfoldable pub bytes : ℕ → ℕ → List ℕ
bytes zero x = []
bytes (suc n) x = x % 256 ∷ bytes n (x / 256)

-- the number in n bytes from a place
unfoldable pub number : ℕ → ℕ → List ℕ → ℕ
number at n l = le (bytes_at at n l)
