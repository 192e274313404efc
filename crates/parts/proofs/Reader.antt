-- What the reader finds at its position, and what a call of `next` leaves. Assumes nothing.
use Rattle.std.proofs.Common.{◌≡◌, ◌+◌, ◌<◌, ◌≤◌, ◌^◌, Fits, w64, ℕ, List, length, Some, Result, Ok, Err, sym, subst, arith}
use Rattle.theory.proofs.Tests.{unless-cases}
use Rattle.wire.specs.Le.{number}
use Rattle.inventory.specs.Inventory.{selector_of}
use Rattle.inventory.specs.Header.{selector_at, header_size}
use Rattle.parts.specs.declared.ListForm.{ListForm}
use Rattle.parts.specs.declared.Part as declared
use Rattle.parts.specs.declared.Cut.{Cut}
use Rattle.parts.specs.declared.PartReader.{PartReader}
use Rattle.parts.specs.Step.{Step}
use Rattle.parts.specs.Step as step
use Rattle.parts.specs.List.{end, cut, part, header_at, step_at, parts_from}
use Rattle.parts.specs.Reader.{owned, left, step_of, Stands, First, Moves, Gives}
use Rattle.parts.proofs.Walk.{Within, step_end, step_part, parts-end, parts_cut, parts-part}

module _ (form : ListForm) (l : List ℕ) (at : ℕ) where
  pub no_step : length l ≤ at → step.End ≡ step_at form l at
  no_step h = sym (step_end form l at h)

  pub ended : length l ≤ at → parts_from form l at ≡ end
  ended h = parts-end form l at (step_end form l at h)

  pub cut_off : {e : Cut} → Stands form l at (Err e) → parts_from form l at ≡ cut
  cut_off h = parts_cut form l at (sym h.step)

  module _ (p : declared.Part) (h : Stands form l at (Ok p)) where
    pub lies : Within l at p.start (length p.value.now)
    lies = step_part form l at (sym h.step)

    pub taken : parts_from form l at ≡ part (owned p) (parts_from form l (p.start + length p.value.now))
    taken = rw (← h.value) at (parts-part form l at (sym h.step))

    pub end-fits : length l < 2 ^ 64 → Fits w64 (p.start + length p.value.now)
    end-fits n = record { fits = omega (arith, lies.ends) }

-- the selector of a part that is found
selector_read : (form : ListForm) (l : List ℕ) (at : ℕ) {t f s start len : ℕ} → step_at form l at ≡ step.Part t f s start len
    → s ≡ selector_of t (number (at + selector_at) 8 l)
unfolding step_at header_at
selector_read form l at {t} {f} {s} {start} {len} =
    unless-cases Says _ _ _ (λ b e. cc) λ b.
    unless-cases Says _ _ _ (λ b e. cc) λ b.
    unless-cases Says _ _ _ (λ b e. cc) (λ b e. cc)
  where
    Says : Step → Type 0
    Says r = r ≡ step.Part t f s start len → s ≡ selector_of t (number (at + selector_at) 8 l)

-- an item that is taken apart later
module _ {r r' : PartReader} {x : Result declared.Part Cut} (h : Gives r (Some x) r') where
  first_as : (y : Result declared.Part Cut) → x ≡ y → First (left r) (Some y) (left r')
  first_as y e = let P : Result declared.Part Cut → Type 0 = λ z. First (left r) (Some z) (left r') in subst P e h.first

  pub part_given : {p : declared.Part} → x ≡ Ok p → left r ≡ part (owned p) (left r')
  part_given {p} e = first_as (Ok p) e

  pub cut_given : {e : Cut} → x ≡ Err e → left r ≡ cut
  cut_given {e} i = (first_as (Err e) i).0

  pub moves_given : {p : declared.Part} → x ≡ Ok p → (p.start ≡ r.at + header_size) × (r'.at ≡ p.start + length p.value.now)
  moves_given {p} e = let P : Result declared.Part Cut → Type 0 = λ y. Moves r.at (Some y) r'.at in subst P e h.moves

  -- its selector is read as its type has it
  pub selector_given : {p : declared.Part} → x ≡ Ok p → (n : ℕ) × (p.selector ≡ selector_of p.part_type n)
  selector_given {p} e =
      let P : Result declared.Part Cut → Type 0 = λ y. step_of (Some y) ≡ step_at r.form r.list.now r.at in
      (_, selector_read _ _ _ (sym (subst P e h.step)))
