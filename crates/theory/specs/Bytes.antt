-- Bytes at a place of a list. A buffer is the list of its bytes. Assumes nothing.
use Rattle.std.specs.Prelude.{List, [], ◌∷◌, Bool, true, false, ℕ, zero, suc, eqb, take, drop}
use Rattle.theory.specs.Logic.{◌and◌}

-- n bytes from a place
abbrev pub bytes_at : ℕ → ℕ → List ℕ → List ℕ
bytes_at at n l = take n (drop at l)

-- the list with x written from a place; what would lie past the end is not written
unfoldable pub put : ℕ → List ℕ → List ℕ → List ℕ
put at x [] = []
put zero [] (b ∷ l) = b ∷ l
put zero (v ∷ x) (b ∷ l) = v ∷ put zero x l
put (suc at) x (b ∷ l) = b ∷ put at x l

-- the same bytes
unfoldable pub same : List ℕ → List ℕ → Bool
same [] [] = true
same [] (y ∷ ys) = false
same (x ∷ xs) [] = false
same (x ∷ xs) (y ∷ ys) = eqb x y and same xs ys
