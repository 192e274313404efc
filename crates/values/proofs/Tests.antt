-- Whether a row is that of the device features, as the code tests it. Assumes nothing.
use mathlib.Core.Path.{◌≡◌}
use mathlib.Core.Bool.{true, false}
use Prim.Native.Nat.{ℕ}
use native.Mathlib.Omega.{arith}
use borrow.Author.Tests.{lt-ltb, le-ltb}
use lib.Dec.{ltb}

pub row_first : (i : ℕ) → i ≡ 0 → ltb 0 i ≡ false
row_first i e = le-ltb 0 i (omega arith)

pub row-later : (i : ℕ) → (i ≡ 0 → ⊥) → ltb 0 i ≡ true
row-later i n = lt-ltb 0 i (omega arith)
