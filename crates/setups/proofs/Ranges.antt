-- A test of every number of a list, and the loop that makes it. Assumes nothing.
use mathlib.Core.Path.{◌≡◌, refl, ap, ◌∙◌}
use mathlib.Core.Bool.{Bool, true}
use mathlib.Core.List.{List, [], ◌∷◌}
use Prim.Native.Nat.{ℕ, zero, suc, ◌-◌, ◌≤◌, ◌<◌}
use native.Mathlib.Omega.{arith}
use borrow.Author.Tests.{eqb-true, leb-true}
use lib.ListN.{length, get_or}
use Rattle.theory.specs.Logic.{◌and◌}
use Rattle.theory.proofs.Tests.{and-bits, both, and_i, within_low, within-high}
use Rattle.std.specs.List.{list_all}
use Rattle.setups.specs.Setup.{most_members, in_ranges, all, is_count, in_numbers}
use Rattle.setups.specs.Writing.{InNumbers}

-- the library's `all` of a list
pub list-all : (f : ℕ → Bool) (l : List ℕ) → list_all f l ≡ all f l
unfolding all
list-all f [] = refl
list-all f (x ∷ l) = and-bits (f x) (list_all f l) ∙ ap (λ b. f x and b) (list-all f l)

-- each of them passes
pub all-at : (f : ℕ → Bool) (l : List ℕ) (i : ℕ) → all f l ≡ true → i < length l → f (get_or l i 0) ≡ true
unfolding all
all-at f [] i e h = absurd (omega arith)
all-at f (x ∷ l) zero e h = (both _ _ e).0
all-at f (x ∷ l) (suc i) e h = all-at f l i (both _ _ e).1 (omega arith)

-- and where each passes, all do
pub all_of : (f : ℕ → Bool) (l : List ℕ) → ((i : ℕ) → i < length l → f (get_or l i 0) ≡ true) → all f l ≡ true
unfolding all
all_of f [] h = refl
all_of f (x ∷ l) h = and_i _ _ (h 0 (omega arith)) (all_of f l λ i k. h (suc i) (omega arith))

-- a queue count less one
pub count_less : (q : ℕ) → is_count q ≡ true → q - 1 ≤ 3
count_less q e = omega (arith, within-high 1 4 q e)

-- ---- the numbers of a setup ----

pub numbers-in : (members : ℕ) (q : List ℕ) (gets sets : ℕ) → in_numbers members q gets sets ≡ true → InNumbers members q gets sets
unfolding in_numbers in_ranges
numbers-in members q gets sets e =
    let a = both _ _ e in
    let b = both _ _ a.0 in
    let c = both _ _ b.0 in
    let d = both _ _ c.0 in
    record {
      some = within_low 1 most_members members d.0;
      few = within-high 1 most_members members d.0;
      each = eqb-true (length q) members b.1;
      counts = a.1;
      few_gets = leb-true gets 8 d.1;
      few_sets = leb-true sets 8 c.1;
    }
