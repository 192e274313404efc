-- Lists of parts behind other bytes, and lists whose parts differ in their flags alone. Assumes nothing.
use mathlib.Core.Path.{◌≡◌, refl, sym, ◌∙◌}
use mathlib.Core.Bool.{Bool, true, false}
use mathlib.Core.List.{List, ◌++◌}
use Prim.Native.Nat.{ℕ, zero, suc, ◌+◌, ◌-◌, ◌≤◌}
use native.Mathlib.Omega.{arith}
use lib.Dec.{ltb}
use lib.ListN.{length, get_or, length-append}
use lib.Seq.{drop-append-add}
use borrow.Author.Tests.{lt-ltb, le-ltb}
use Rattle.theory.specs.Logic.{unless◌answer◌then◌}
use Rattle.theory.proofs.Tests.{by_cases, tests}
use Rattle.wire.specs.Le.{number}
use Rattle.wire.proofs.Le.{number-byte}
use Rattle.inventory.specs.Header.{selector_at, flags_at, length_at, header_size}
use Rattle.parts.specs.declared.ListForm.{ListForm}
use Rattle.parts.specs.declared.ListForm.TheVariants.{Parts, Headers}
use Rattle.parts.specs.Step.{Step}
use Rattle.parts.specs.Step as step
use Rattle.parts.specs.List.{value_size, header_at, step_at, Part, PartList, end, cut, part, part_with, part_in, on_step, parts_from, parts_of, whole, among}
use Rattle.parts.proofs.Walk.{step_end, step_part, parts-step, parts-end}
use Rattle.rules.specs.Rules.{every, repeated}
use Rattle.values.specs.Apply.{applied}

-- ---- a list behind other bytes ----

moved : ℕ → Step → Step
moved n (step.Part t f s start len) = step.Part t f s (n + start) len
moved n step.Cut = step.Cut
moved n step.End = step.End

moved-tests : (n : ℕ) (a b c : Bool) (x y : Step) → x ≡ moved n y
    → (unless a answer step.End then unless b answer step.Cut then unless c answer step.Cut then x)
    ≡ moved n (unless a answer step.End then unless b answer step.Cut then unless c answer step.Cut then y)
unfolding unless◌answer◌then◌ moved
moved-tests n false b c x y e = refl
moved-tests n true false c x y e = refl
moved-tests n true true false x y e = refl
moved-tests n true true true x y e = e

module _ (pre l : List ℕ) where
  pub number_behind : (at n : ℕ) → number (length pre + at) n (pre ++ l) ≡ number at n l
  unfolding number
  number_behind at n = rw (drop-append-add pre l at)

  byte-behind : (at : ℕ) → get_or (pre ++ l) (length pre + at) 0 ≡ get_or l at 0
  byte-behind at = sym (number-byte (length pre + at) (pre ++ l)) ∙ number_behind at 1 ∙ number-byte at l

  number_past : (at i n : ℕ) → number (length pre + at + i) n (pre ++ l) ≡ number (at + i) n l
  number_past at i n = let e : length pre + at + i ≡ length pre + (at + i) = omega arith in rw e (number_behind (at + i) n)

  size-behind : (form : ListForm) (at : ℕ) → value_size form (pre ++ l) (length pre + at) ≡ value_size form l at
  size-behind Parts at = number_past at length_at 4
  size-behind Headers at = refl

  header-behind : (form : ListForm) (at : ℕ) → header_at form (pre ++ l) (length pre + at) ≡ moved (length pre) (header_at form l at)
  unfolding header_at moved
  header-behind form at =
      let e : length pre + at + flags_at ≡ length pre + (at + flags_at) = omega arith in
      let f : length pre + at + header_size ≡ length pre + (at + header_size) = omega arith in
      rw (number_behind at 2, e, byte-behind (at + flags_at), number_past at selector_at 8, f, size-behind form at)

  before-end : (at : ℕ) → ltb (length pre + at) (length (pre ++ l)) ≡ ltb at (length l)
  before-end at =
      let n = length-append pre l in
      by_cases (ltb at (length l)) (λ t. lt-ltb (length pre + at) (length (pre ++ l)) (omega tests) ∙ sym t)
      (λ t. le-ltb (length pre + at) (length (pre ++ l)) (omega tests) ∙ sym t)

  step-behind : (form : ListForm) (at : ℕ) → step_at form (pre ++ l) (length pre + at) ≡ moved (length pre) (step_at form l at)
  unfolding step_at
  step-behind form at =
      let n = length-append pre l in
      let e : length (pre ++ l) - (length pre + at) ≡ length l - at = omega arith in
      let f : length (pre ++ l) - (length pre + at + header_size) ≡ length l - (at + header_size) = omega arith in
      rw (before-end at, e, f, size-behind form at) (moved-tests (length pre) _ _ _ _ _ (header-behind form at))

  -- no more than k bytes are left
  from-behind : (form : ListForm) (k at : ℕ) → length l ≤ at + k → parts_from form (pre ++ l) (length pre + at) ≡ parts_from form l at
  unfolding moved
  from-behind form zero at h =
      let n = length-append pre l in
      parts-end form (pre ++ l) (length pre + at) (step_end form (pre ++ l) (length pre + at) (omega arith))
      ∙ sym (parts-end form l at (step_end form l at (omega arith)))
  from-behind form (suc k) at h =
      parts-step form (pre ++ l) (length pre + at)
      ∙ rw (step-behind form at) (cases (step_at form l at) refl (from-behind form k))
      ∙ sym (parts-step form l at)
    where
      cases : (r : Step) → step_at form l at ≡ r → ((p : ℕ) → length l ≤ p + k → parts_from form (pre ++ l) (length pre + p) ≡ parts_from form l p)
          → on_step (moved (length pre) r) (λ t f s start len. part (part_in (pre ++ l) t f s start len) (parts_from form (pre ++ l) (start + len))) cut end
          ≡ on_step r (λ t f s start len. part (part_in l t f s start len) (parts_from form l (start + len))) cut end
      cases (step.Part t f s start len) e ih =
          let w = step_part form l at e in
          let a : length pre + start + len ≡ length pre + (start + len) = omega arith in
          rw (drop-append-add pre l start, a, ih (start + len) (omega arith))
      cases step.Cut e ih = refl
      cases step.End e ih = refl

  pub parts-behind : (form : ListForm) → parts_from form (pre ++ l) (length pre) ≡ parts_of form l
  parts-behind form = let e : length pre + 0 ≡ length pre = omega arith in rw e at (from-behind form (length l) 0 (omega arith))

-- ---- parts that differ in their flags alone, as far as Free allows for a type and a selector ----

pub data Alike (Free : ℕ → ℕ → ℕ → ℕ → Type 0) : PartList → PartList → Type 0 where
  same : {ps : PartList} → Alike Free ps ps
  next : {t s f g : ℕ} {v : List ℕ} {ps qs : PartList} → Free t s f g → Alike Free ps qs → Alike Free (part (part_with t f s v) ps) (part (part_with t g s v) qs)

module _ (Free : ℕ → ℕ → ℕ → ℕ → Type 0) where
  pub whole-alike : {ps qs : PartList} → Alike Free ps qs → whole qs ≡ whole ps
  unfolding whole
  whole-alike same = refl
  whole-alike (next e a) = whole-alike a

  pub every-alike : (rule : Part → Bool) → ((t s f g : ℕ) (v : List ℕ) → Free t s f g → rule (part_with t g s v) ≡ rule (part_with t f s v))
      → {ps qs : PartList} → Alike Free ps qs → every rule qs ≡ every rule ps
  unfolding every
  every-alike rule h same = refl
  every-alike rule h (next {t} {s} {f} {g} {v} e a) = rw (h t s f g v e, every-alike rule h a)

  pub among-alike : (t s : ℕ) {ps qs : PartList} → Alike Free ps qs → among t s qs ≡ among t s ps
  unfolding among
  among-alike t s same = refl
  among-alike t s (next e a) = rw (among-alike t s a)

  pub repeated-alike : (queues : ℕ) {ps qs : PartList} → Alike Free ps qs → repeated queues qs ≡ repeated queues ps
  unfolding repeated
  repeated-alike queues same = refl
  repeated-alike queues (next {t} {s} e a) = rw (among-alike t s a, repeated-alike queues a)

  pub applied-alike : (queues : ℕ) {ps qs : PartList} → Alike Free ps qs → (values : List ℕ) → applied queues qs values ≡ applied queues ps values
  unfolding applied
  applied-alike queues same values = refl
  applied-alike queues (next e a) values = applied-alike queues a _
