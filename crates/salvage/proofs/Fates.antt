-- One part of the walk as its fate, and how long what is lent stays. Assumes nothing.
use mathlib.Core.Path.{◌≡◌, refl, ◌∙◌}
use mathlib.Core.Bool.{Bool, true, false, not}
use mathlib.Core.List.{List}
use Prim.Native.Nat.{ℕ, ◌+◌, ◌≤◌}
use native.Mathlib.Omega.{arith}
use lib.Dec.{eqb}
use lib.ListN.{length, get_or, length-set}
use Rattle.std.specs.Prelude.{Option, Some, None}
use Rattle.theory.specs.Logic.{unless◌answer◌then◌}
use Rattle.theory.proofs.Bytes.{length-put}
use Rattle.theory.proofs.Lists.{set_cases}
use Rattle.inventory.specs.Inventory.{row_at, offset_of, place_of, on_place}
use Rattle.parts.specs.List.{Part}
use Rattle.rules.specs.Rules.{known, length_right}
use Rattle.salvage.specs.Salvage.{value_right, copy, wrong_size, wrong_value, Fate, Kept, Dropped, fate_of}
use Rattle.salvage.specs.Walk.{State, dropping, keeping, taken, Sized}

-- row i is kept
abbrev pub flag : State → ℕ → Bool
flag s i = not (eqb (get_or s.kept i 0) 0)

-- the row of a part is
abbrev pub kept_before : ℕ → Part → State → Bool
kept_before q p s = on_place (place_of q p.part_type p.selector) (flag s) false

-- the state after a part of this fate
abbrev pub done : ℕ → Fate → Part → State → State
done q Kept p s = on_place (place_of q p.part_type p.selector) (λ i. keeping s i p.value) s
done q (Dropped cause) p s = dropping s cause

-- ---- the fate of a part ----

module _ (q : ℕ) (p : Part) (s : State) where
  -- of a part of row i, by its tests
  tests : (a b c : Bool) (i : ℕ) → place_of q p.part_type p.selector ≡ Some i
      → (unless a answer dropping s copy then unless b answer dropping s wrong_size then unless c answer dropping s wrong_value then keeping s i p.value)
      ≡ done q (unless not (not a) answer Dropped copy then unless b answer Dropped wrong_size then unless c answer Dropped wrong_value then Kept) p s
  unfolding unless◌answer◌then◌
  tests true true true i e = rw e
  tests true true false i e = refl
  tests true false c i e = refl
  tests false b c i e = refl

  pub taken-fate : (features : List ℕ) → taken q features p s ≡ done q (fate_of q features (kept_before q p s) p) p s
  unfolding taken fate_of known length_right unless◌answer◌then◌
  taken-fate features = cases (place_of q p.part_type p.selector) refl
    where
      cases : (r : Option ℕ) → place_of q p.part_type p.selector ≡ r
          → taken q features p s ≡ done q (fate_of q features (kept_before q p s) p) p s
      cases (Some i) e = rw e (tests (eqb (get_or s.kept i 0) 0) (eqb (length p.value) (row_at i).size) (value_right features p) i e)
      cases None e = rw e

-- ---- how long what is lent stays ----

pub sized-more : (n m : ℕ) (s : State) → Sized n s → n ≤ m → Sized m s
sized-more n m s h l =
    record { values = h.values; kept = h.kept; dropped = h.dropped; flags = h.flags; counts = λ j. omega (arith, h.counts j) }

pub taken-sized : (q n : ℕ) (features : List ℕ) (p : Part) (s : State) → Sized n s → Sized (n + 1) (taken q features p s)
taken-sized q n features p s h = rw (taken-fate q p s features) (cases (fate_of q features (kept_before q p s) p))
  where
    keeps : (r : Option ℕ) → Sized (n + 1) (on_place r (λ i. keeping s i p.value) s)
    keeps (Some i) =
        record {
          values = length-put (offset_of i) p.value s.values ∙ h.values;
          kept = length-set s.kept i 1 ∙ h.kept;
          dropped = h.dropped;
          flags = λ j. set_cases (λ x. x ≤ 1) s.kept i 1 j (h.flags j) (λ e. omega arith);
          counts = λ j. omega (arith, h.counts j);
        }
    keeps None = sized-more n (n + 1) s h (omega arith)

    cases : (f : Fate) → Sized (n + 1) (done q f p s)
    cases Kept = keeps (place_of q p.part_type p.selector)
    cases (Dropped cause) =
        record {
          values = h.values;
          kept = h.kept;
          flags = h.flags;
          dropped = length-set s.dropped cause (get_or s.dropped cause 0 + 1) ∙ h.dropped;
          counts = λ j.
              set_cases (λ x. x ≤ n + 1) s.dropped cause _ j (omega (arith, h.counts j)) (λ e. omega (arith, h.counts cause));
        }
