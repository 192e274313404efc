-- The walk over a list of parts: where a found part lies, and the parts from a position as the step there and the
-- parts after it. Assumes nothing.
use mathlib.Core.Path.{◌≡◌, refl, ap}
use mathlib.Core.Bool.{Bool, true, false}
use mathlib.Core.List.{List}
use Prim.Native.Nat.{ℕ, zero, suc, ◌+◌, ◌-◌, ◌<◌, ◌≤◌}
use native.Mathlib.Omega.{arith}
use lib.Dec.{leb, ltb}
use lib.ListN.{length, get_or}
use borrow.Author.Tests.{lt-ltb, le-ltb, le-leb, leb-true}
use Rattle.theory.specs.Logic.{unless◌answer◌then◌}
use Rattle.theory.proofs.Tests.{never}
use Rattle.wire.specs.Le.{number}
use Rattle.inventory.specs.Inventory.{selector_of}
use Rattle.inventory.specs.Header.{flags_at, selector_at, header_size}
use Rattle.parts.specs.declared.ListForm.{ListForm}
use Rattle.parts.specs.Step.{Step}
use Rattle.parts.specs.Step as step
use Rattle.parts.specs.List.{value_size, header_at, step_at, end, cut, part, part_in, on_step, at_most, parts_from}

-- what a step says of the place where it stands
module _ (form : ListForm) (l : List ℕ) (at : ℕ) where
  pub step_end : length l ≤ at → step_at form l at ≡ step.End
  unfolding step_at unless◌answer◌then◌
  step_end h = rw (le-ltb at (length l) h)

  pub step-found : at + header_size ≤ length l → value_size form l at ≤ length l - (at + header_size) → step_at form l at ≡ header_at form l at
  unfolding step_at unless◌answer◌then◌
  step-found h h' =
      let i : at < length l = omega arith in
      let r : header_size ≤ length l - at = omega arith in
      rw (lt-ltb at (length l) i, le-leb header_size (length l - at) r, le-leb (value_size form l at) (length l - (at + header_size)) h')

-- the header there, read field by field
pub header_is : (form : ListForm) (l : List ℕ) (at t x s n : ℕ) → n ≡ value_size form l at
    → t ≡ number at 2 l → x ≡ number (at + selector_at) 8 l → s ≡ selector_of t x
    → step.Part t (get_or l (at + flags_at) 0) s (at + header_size) n ≡ header_at form l at
unfolding header_at
header_is form l at t x s n size type-is selector-bytes selector-is = rw (selector-is, type-is, selector-bytes, size)

-- a part that is found lies within the list
pub record Within (l : List ℕ) (at start len : ℕ) : Type 0 where
  pub starts : start ≡ at + header_size
  pub ends : start + len ≤ length l

pub step_part : (form : ListForm) (l : List ℕ) (at : ℕ) {t f s start len : ℕ}
    → step_at form l at ≡ step.Part t f s start len → Within l at start len
unfolding step_at header_at unless◌answer◌then◌
step_part form l at {t} {f} {s} {start} {len} e = cases _ _ _ refl refl refl e
  where
    cases : (b₁ b₂ b₃ : Bool) → ltb at (length l) ≡ b₁ → leb header_size (length l - at) ≡ b₂
        → leb (value_size form l at) (length l - (at + header_size)) ≡ b₃
        → (unless b₁ answer step.End then unless b₂ answer step.Cut then unless b₃ answer step.Cut then header_at form l at)
        ≡ step.Part t f s start len
        → Within l at start len
    cases true true true e₁ e₂ e₃ e =
        let i : start ≡ at + header_size = cc in
        let n : len ≡ value_size form l at = cc in
        let h = leb-true header_size (length l - at) e₂ in
        let h' = leb-true (value_size form l at) (length l - (at + header_size)) e₃ in
        record { starts = i; ends = omega arith }
    cases true true false e₁ e₂ e₃ e = never cc
    cases true false b₃ e₁ e₂ e₃ e = never cc
    cases false b₂ b₃ e₁ e₂ e₃ e = never cc

-- with a bound that is large enough, one more part changes nothing
one_more : (form : ListForm) (n : ℕ) (l : List ℕ) (at : ℕ) → length l ≤ at + n → at_most form n l at ≡ at_most form (suc n) l at
unfolding at_most
one_more form zero l at h = rw (step_end form l at (omega arith))
one_more form (suc n) l at h = cases (step_at form l at) refl (λ k. one_more form n l k)
  where
    cases : (r : Step) → step_at form l at ≡ r
        → ((k : ℕ) → length l ≤ k + n → at_most form n l k ≡ at_most form (suc n) l k)
        → on_step r (λ t f s start len. part (part_in l t f s start len) (at_most form n l (start + len))) cut end
        ≡ on_step r (λ t f s start len. part (part_in l t f s start len) (at_most form (suc n) l (start + len))) cut end
    cases (step.Part t f s start len) e ih =
        let w = step_part form l at e in
        ap (part (part_in l t f s start len)) (ih (start + len) (omega arith))
    cases step.Cut e ih = refl
    cases step.End e ih = refl

-- the parts from a position: the step there, and the parts after it
pub parts-step : (form : ListForm) (l : List ℕ) (at : ℕ)
    → parts_from form l at
    ≡ on_step (step_at form l at) (λ t f s start len. part (part_in l t f s start len) (parts_from form l (start + len))) cut end
unfolding parts_from at_most
parts-step form l at = one_more form (length l) l at (omega arith)

module _ (form : ListForm) (l : List ℕ) (at : ℕ) where
  pub parts-end : step_at form l at ≡ step.End → parts_from form l at ≡ end
  parts-end e = rw (parts-step form l at, e)

  pub parts_cut : step_at form l at ≡ step.Cut → parts_from form l at ≡ cut
  parts_cut e = rw (parts-step form l at, e)

  pub parts-part : {t f s start len : ℕ} → step_at form l at ≡ step.Part t f s start len
      → parts_from form l at ≡ part (part_in l t f s start len) (parts_from form l (start + len))
  parts-part e = rw (parts-step form l at, e)
