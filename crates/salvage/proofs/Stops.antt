-- Where the walk over a damaged list stops: at its end, or at a part that is cut. Assumes nothing.
use mathlib.Core.Path.{◌≡◌, refl, ◌∙◌}
use mathlib.Core.Bool.{Bool, true, false}
use mathlib.Core.List.{List}
use Prim.Native.Nat.{ℕ, zero, suc, ◌+◌, ◌-◌, ◌≤◌}
use native.Mathlib.Nat.{add-zero}
use native.Mathlib.Omega.{arith}
use borrow.Author.Tests.{ltb-false}
use lib.Dec.{ltb, leb}
use lib.ListN.{length}
use Rattle.theory.specs.Logic.{unless◌answer◌then◌}
use Rattle.theory.proofs.Bytes.{length-bytes_at}
use Rattle.theory.proofs.Tests.{never}
use Rattle.inventory.specs.Header.{header_size}
use Rattle.parts.specs.declared.ListForm.TheVariants.{Parts}
use Rattle.parts.specs.Step.{Step}
use Rattle.parts.specs.Step as step
use Rattle.parts.specs.List.{value_size, header_at, step_at, PartList, part, part_in, parts_from, parts_of, whole}
use Rattle.parts.proofs.Walk.{step_end, step_part, parts-end, parts_cut, parts-part}
use Rattle.salvage.specs.Salvage.{bytes_read, left_over}
use Rattle.salvage.specs.Claims.{StopsAtCut}

-- only the end of the list is taken for it
end-reached : (l : List ℕ) (at : ℕ) → step_at Parts l at ≡ step.End → length l ≤ at
unfolding step_at header_at unless◌answer◌then◌
end-reached l at e =
    cases (ltb at (length l)) (leb header_size (length l - at)) (leb (value_size Parts l at) (length l - (at + header_size))) refl e
  where
    cases : (b₁ b₂ b₃ : Bool) → ltb at (length l) ≡ b₁
        → (unless b₁ answer step.End then unless b₂ answer step.Cut then unless b₃ answer step.Cut then header_at Parts l at) ≡ step.End
        → length l ≤ at
    cases true true true e₁ e = never cc
    cases true true false e₁ e = never cc
    cases true false b₃ e₁ e = never cc
    cases false b₂ b₃ e₁ e = ltb-false at (length l) e₁

-- of the parts from a position
record StopsFrom (l : List ℕ) (at : ℕ) (ps : PartList) : Type 0 where
  inside : at + bytes_read ps ≤ length l
  at-end : whole ps ≡ true → at + bytes_read ps ≡ length l
  at_cut : whole ps ≡ false → step_at Parts l (at + bytes_read ps) ≡ step.Cut

stops-from : (n : ℕ) (l : List ℕ) (at : ℕ) → at ≤ length l → length l ≤ at + n → StopsFrom l at (parts_from Parts l at)
unfolding bytes_read whole
stops-from zero l at i h =
    rw (parts-end Parts l at (step_end Parts l at (omega arith)))
    (record { inside = omega arith; at-end = λ _. omega arith; at_cut = λ e. cc })
stops-from (suc n) l at i h = cases (step_at Parts l at) refl (λ k. stops-from n l k)
  where
    cases : (r : Step) → step_at Parts l at ≡ r
        → ((k : ℕ) → k ≤ length l → length l ≤ k + n → StopsFrom l k (parts_from Parts l k))
        → StopsFrom l at (parts_from Parts l at)
    cases (step.Part t f s start len) e ih =
        let w = step_part Parts l at e in
        let k = start + len in
        let long = length-bytes_at start len l w.ends in
        let rest = ih k w.ends (omega (arith, w.starts)) in
        let on : at + bytes_read (part (part_in l t f s start len) (parts_from Parts l k)) ≡ k + bytes_read (parts_from Parts l k) =
        omega (arith, w.starts, long) in
        rw (parts-part Parts l at e)
        (record {
          inside = omega (arith, on, rest.inside);
          at-end = λ y. on ∙ rest.at-end y;
          at_cut = λ y. rw on (rest.at_cut y);
        })
    cases step.Cut e ih =
        rw (parts_cut Parts l at e) (record { inside = omega arith; at-end = λ y. cc; at_cut = λ _. rw add-zero e })
    cases step.End e ih =
        let z = end-reached l at e in
        rw (parts-end Parts l at e) (record { inside = omega arith; at-end = λ _. omega arith; at_cut = λ y. cc })

pub read-inside : (l : List ℕ) → bytes_read (parts_of Parts l) ≤ length l
read-inside l = omega (arith, (stops-from (length l) l 0 (omega arith) (omega arith)).inside)

pub stops-at-cut : StopsAtCut
stops-at-cut l =
    let s = stops-from (length l) l 0 (omega arith) (omega arith) in
    let at : length l - left_over l ≡ 0 + bytes_read (parts_of Parts l) = omega (arith, s.inside) in
    record { at-end = λ y. omega (arith, s.at-end y); at_cut = λ y. rw at (s.at_cut y) }
