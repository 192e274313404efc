-- The id of a live object of a sound member is below G + S, and the member is not marked. Assumes nothing.
use mathlib.Core.Path.{◌≡◌, refl, sym, ◌∙◌}
use mathlib.Core.Bool.{true, false}
use mathlib.Core.List.{List, [], ◌∷◌, map}
use Prim.Native.Nat.{ℕ, zero, suc, ◌+◌, ◌-◌, ◌<◌}
use native.Mathlib.Omega.{arith}
use lib.Dec.{leb}
use lib.ListN.{get_or, drop, get_or-map}
use lib.Seq.{get_or-drop}
use borrow.Author.Tests.{leb-true, leb-false}
use Rattle.theory.proofs.Tests.{by_cases, both}
use Rattle.protocol.specs.declared.ObjectKind.{ObjectKind}
use Rattle.std.specs.Prelude.{Some}
use Rattle.objects.specs.declared.Slot.{Slot}
use Rattle.objects.specs.declared.Slot.TheVariants.{Free, Get, Set}
use Rattle.objects.specs.Objects.{slot_byte, found_in, object_byte, free, all_up_to}
use Rattle.member.specs.declared.Member.{Member}
use Rattle.member.specs.Objects.{lookup_of}
use Rattle.member.proofs.Sound.{SoundMember}

-- none of these bytes is above 0, nor is what is read past them
all-zero : (bs : List ℕ) (i : ℕ) → all_up_to 0 bs ≡ true → get_or bs i 0 ≡ 0
unfolding all_up_to
all-zero [] i e = refl
all-zero (b ∷ bs) zero e = omega (arith, leb-true b 0 (both _ _ e).0)
all-zero (b ∷ bs) (suc i) e = all-zero bs i (both _ _ e).1

live-not-free : (s : Slot) (k : ObjectKind) → found_in s ≡ Some k → slot_byte s ≡ 0 → ⊥
live-not-free Free k e z = cc
live-not-free Get k e z = omega arith
live-not-free Set k e z = omega arith

-- a free byte is no live object's
byte-live : (m : Member) (id : ℕ) (k : ObjectKind) → lookup_of m id ≡ Some k → get_or (map object_byte m.objects) id 0 ≡ 0 → ⊥
unfolding lookup_of
byte-live m id k e z = live-not-free (get_or m.objects id free).slot k e (sym (get_or-map object_byte m.objects id free) ∙ z)

module _ (gets sets : ℕ) (features : List ℕ) (m : Member) (id : ℕ) (k : ObjectKind) (s : SoundMember gets sets features m) (e : lookup_of m id ≡ Some k) where
  pub live_below : id < gets + sets
  live_below =
      let n = gets + sets in
      by_cases (leb n id)
      (λ t.
      let h = leb-true n id t in
      let j : n + (id - n) ≡ id = omega arith in
      let bs = map object_byte m.objects in
      let z : get_or bs id 0 ≡ 0 = rw (← j) (sym (get_or-drop n bs (id - n) 0) ∙ all-zero (drop n bs) (id - n) s.below) in
      absurd (byte-live m id k e z))
      (λ t. leb-false n id t)

  -- a marked member has none
  pub live-unmarked : m.marked ≡ false
  live-unmarked =
      by_cases m.marked (λ t. absurd (byte-live m id k e (all-zero (map object_byte m.objects) id (s.mark t).no_objects))) (λ t. t)
