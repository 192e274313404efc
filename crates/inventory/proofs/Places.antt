-- `on_place` where the code has looked the row up: `r` is what place_of answered. Assumes nothing.
use mathlib.Core.Path.{◌≡◌, sym, ◌∙◌}
use mathlib.Core.List.{List}
use Prim.Native.Nat.{ℕ, ◌+◌, ◌<◌, ◌≤◌}
use native.Mathlib.Omega.{arith}
use lib.ListN.{length}
use Rattle.std.specs.Prelude.{Option, Some, None}
use Rattle.theory.specs.Bytes.{put}
use Rattle.inventory.specs.Inventory.{row_at, row_count, offset_of, values_size, place_of, on_place}
use Rattle.inventory.proofs.Find.{place_found}
use Rattle.inventory.proofs.Rules.{row_within}

module _ (q t s : ℕ) (r : Option ℕ) (here : r ≡ place_of q t s) where
  module _ {A : Type 0} (f : ℕ → A) (a x : A) where
    pub at_row : (i : ℕ) → r ≡ Some i → x ≡ f i → x ≡ on_place (place_of q t s) f a
    at_row i e h = rw (sym here ∙ e) h

    pub at_none : r ≡ None → x ≡ a → x ≡ on_place (place_of q t s) f a
    at_none e h = rw (sym here ∙ e) h

  pub row_in : (i : ℕ) → r ≡ Some i → i < row_count
  row_in i e = (place_found q t s i (sym here ∙ e)).below

  -- there is room for a value as long as the row's
  pub row_room : (i o n : ℕ) (x v : List ℕ) → r ≡ Some i → o ≡ offset_of i → n ≡ (row_at i).size → length x ≡ n
      → length v ≡ values_size → o + length x ≤ length v
  row_room i o n x v e d m l h = omega (arith, row_within i (row_in i e))

-- a value put where offset_of says
pub row_put : (i o : ℕ) (x v w : List ℕ) → o ≡ offset_of i → w ≡ put o x v → w ≡ put (offset_of i) x v
row_put i o x v w e h = rw (← e) h
