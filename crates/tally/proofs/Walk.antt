-- The walk that counts parts: what the parts that are left add gives what the whole list adds. Assumes nothing.
use mathlib.Core.Path.{◌≡◌, refl, ap, sym, ◌∙◌}
use mathlib.Core.List.{List, [], ◌∷◌}
use Prim.Native.Nat.{ℕ, zero, suc, ◌+◌, ◌≤◌, ◌^◌}
use native.Mathlib.Omega.{arith}
use lib.Dec.{eqb}
use lib.ListN.{length, get_or}
use Rattle.theory.specs.Logic.{◌and◌}
use Rattle.theory.proofs.Tests.{indicator-le}
use Rattle.parts.specs.declared.ListForm.TheVariants.{Parts}
use Rattle.parts.specs.Step.{Step}
use Rattle.parts.specs.Step as step
use Rattle.parts.specs.List.{step_at, Part, PartList, cut, end, part, part_in, on_step, at_most, parts_from, parts_of}
use Rattle.rules.specs.Rules.{known}
use Rattle.tally.specs.Counts.{◌plus◌, Below}
use Rattle.tally.specs.Rows.{parts_of_type, longest}
use Rattle.tally.specs.Steps.{by_type, part_adds, parts_add}
use Rattle.tally.proofs.Plus.{AtMost, none_more, one_more, zeros-first, plus_assoc, plus-zeros, at-plus, at_least}

-- ---- how many parts there are ----

few : (q t n : ℕ) (l : List ℕ) (at : ℕ) → parts_of_type q t (at_most Parts n l at) ≤ n
unfolding at_most parts_of_type
few q t zero l at = omega arith
few q t (suc n) l at = cases (step_at Parts l at) (λ k. few q t n l k)
  where
    cases : (r : Step) → ((k : ℕ) → parts_of_type q t (at_most Parts n l k) ≤ n)
        → parts_of_type q t (on_step r (λ u f s start len. part (part_in l u f s start len) (at_most Parts n l (start + len))) cut end) ≤ suc n
    cases (step.Part u f s start len) ih = omega (arith, ih (start + len), indicator-le (eqb u t and known q u s))
    cases step.Cut ih = omega arith
    cases step.End ih = omega arith

-- no more than there are bytes
pub parts-few : (q t : ℕ) (l : List ℕ) → parts_of_type q t (parts_of Parts l) ≤ length l
unfolding parts_from
parts-few q t l = few q t (length l) l 0

pub by-type-few : (n : ℕ) (f : ℕ → ℕ) → ((t : ℕ) → f t ≤ n) → AtMost n (by_type f)
unfolding by_type
by-type-few n f h =
    let last : AtMost n (0 ∷ []) = one_more n 0 [] (omega arith) (none_more n) in
    zeros-first n 9 _
    (one_more n _ _ (h _) (one_more n _ _ (h _) (one_more n _ _ (h _) (one_more n _ _ (h _) (one_more n _ _ (h _)
    (one_more n _ _ (h _) last))))))

pub parts-add-few : (q : ℕ) (l : List ℕ) → AtMost (length l) (parts_add q (parts_of Parts l))
unfolding parts_add
parts-add-few q l = by-type-few (length l) _ (λ t. parts-few q t l)

-- ---- the walk ----

add-part : (q : ℕ) (p : Part) (ps : PartList) → parts_add q (part p ps) ≡ part_adds q p.part_type p.selector plus parts_add q ps
unfolding parts_add part_adds by_type parts_of_type ◌plus◌
add-part q p ps = refl

-- a₀ the counts before, a now, ps the parts that are left
pub record Counting (q : ℕ) (l a₀ a : List ℕ) (ps : PartList) : Type 0 where
  pub rest : a₀ plus parts_add q (parts_of Parts l) ≡ a plus parts_add q ps

pub counting-start : (q : ℕ) (l a : List ℕ) → Counting q l a a (parts_of Parts l)
counting-start q l a = record { rest = refl }

module _ {q : ℕ} {l a₀ a : List ℕ} {ps : PartList} (w : Counting q l a₀ a ps) where
  pub counting-room : Below (2 ^ 62) a₀ → length l ≤ longest → Below (2 ^ 63) a
  counting-room v h = record {
    at = λ i.
        omega (
          arith,
          v.at i,
          (parts-add-few q l).at i,
          at-plus a₀ (parts_add q (parts_of Parts l)) i,
          at_least a (parts_add q ps) i,
          ap (λ x. get_or x i 0) w.rest,
        );
  }

  pub counting-on : {p : Part} {qs : PartList} {b : List ℕ} → ps ≡ part p qs → b ≡ a plus part_adds q p.part_type p.selector
      → Counting q l a₀ b qs
  unfolding parts_add part_adds by_type
  counting-on {p} {qs} {b} first e = record {
    rest =
        w.rest ∙ rw first (ap (a plus◌) (add-part q p qs))
        ∙ sym (plus_assoc a (part_adds q p.part_type p.selector) (parts_add q qs) (omega arith))
        ∙ ap (◌plus parts_add q qs) (sym e);
  }

  pub counting-end : ps ≡ end → a ≡ a₀ plus parts_add q (parts_of Parts l)
  unfolding parts_add by_type parts_of_type
  counting-end e = sym (w.rest ∙ rw e (plus-zeros a 16))

  pub counting_cut : ps ≡ cut → a ≡ a₀ plus parts_add q (parts_of Parts l)
  unfolding parts_add by_type parts_of_type
  counting_cut e = sym (w.rest ∙ rw e (plus-zeros a 16))
