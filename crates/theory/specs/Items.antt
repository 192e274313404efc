-- Items of bytes, one after the other, by their index. Assumes nothing.
use Rattle.std.specs.Prelude.{List, [], ◌++◌, ℕ, zero, suc, ◌+◌}

-- k items from the i-th on
unfoldable pub items_from : (ℕ → List ℕ) → ℕ → ℕ → List ℕ
items_from item zero i = []
items_from item (suc k) i = item i ++ items_from item k (i + 1)
