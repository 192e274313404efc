-- The value of a part in a list of parts. Assumes nothing.
use mathlib.Core.Path.{◌≡◌, refl, sym, ◌∙◌}
use mathlib.Core.Bool.{Bool, true, false}
use mathlib.Core.List.{List}
use Prim.Native.Nat.{ℕ}
use lib.Dec.{eqb}
use borrow.Author.Tests.{eqb-true, eq-eqb}
use Rattle.theory.specs.Logic.{when◌then◌else◌, ◌and◌}
use Rattle.theory.proofs.Tests.{by_cases, both, and_i, true-or, false-or}
use Rattle.parts.specs.List.{Part, PartList, end, cut, part, among, value_or}
use Rattle.rules.specs.Rules.{every}

-- of a list with a part in front
module _ (t s : ℕ) (p : Part) (ps : PartList) (y : List ℕ) where
  pub value-here : p.part_type ≡ t → p.selector ≡ s → value_or t s (part p ps) y ≡ p.value
  unfolding value_or when◌then◌else◌
  value-here e f = rw (and_i _ _ (eq-eqb _ _ e) (eq-eqb _ _ f))

  pub value_on : eqb p.part_type t and eqb p.selector s ≡ false → value_or t s (part p ps) y ≡ value_or t s ps y
  unfolding value_or when◌then◌else◌
  value_on e = rw e

pub value_none : (t s : ℕ) (ps : PartList) (y : List ℕ) → among t s ps ≡ false → value_or t s ps y ≡ y
unfolding value_or among when◌then◌else◌
value_none t s end y e = refl
value_none t s cut y e = refl
value_none t s (part p ps) y e =
    by_cases (eqb p.part_type t and eqb p.selector s)
    (λ h. let clash : true ≡ false = sym (true-or _) ∙ rw h at e in cc)
    (λ n. rw n (value_none t s ps y (sym (false-or _) ∙ rw n at e)))

-- where there is one, what stands in for it does not count
pub value_there : (t s : ℕ) (ps : PartList) (x y : List ℕ) → among t s ps ≡ true → value_or t s ps x ≡ value_or t s ps y
unfolding value_or among when◌then◌else◌
value_there t s end x y e = cc
value_there t s cut x y e = cc
value_there t s (part p ps) x y e =
    by_cases (eqb p.part_type t and eqb p.selector s)
    (λ h. rw h)
    (λ n. rw n (value_there t s ps x y (sym (false-or _) ∙ rw n at e)))

-- a rule of a part's type, selector and value that each part obeys, the value obeys; so must what stands in for it
abbrev pub on_part : (ℕ → ℕ → List ℕ → Bool) → Part → Bool
on_part rule p = rule p.part_type p.selector p.value

pub value-obeys : (rule : ℕ → ℕ → List ℕ → Bool) (t s : ℕ) (ps : PartList) (y : List ℕ) → every (on_part rule) ps ≡ true
    → (among t s ps ≡ false → rule t s y ≡ true) → rule t s (value_or t s ps y) ≡ true
unfolding value_or among every when◌then◌else◌
value-obeys rule t s end y e h = h refl
value-obeys rule t s cut y e h = h refl
value-obeys rule t s (part p ps) y e h =
    let b = both _ _ e in
    by_cases (eqb p.part_type t and eqb p.selector s)
    (λ m.
    let n = both _ _ m in
    rw (m, ← eqb-true p.part_type t n.0, ← eqb-true p.selector s n.1) b.0)
    (λ n. rw n (value-obeys rule t s ps y b.1 (λ k. h (rw n (false-or _ ∙ k)))))
