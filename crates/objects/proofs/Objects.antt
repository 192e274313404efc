-- Objects come back from their bytes, and bytes up to 2 from their objects; each return of the functions on one byte or
-- one slot, in the shape in which it is asked. Assumes nothing.
use mathlib.Core.Path.{◌≡◌, refl, ap}
use mathlib.Core.Bool.{true}
use mathlib.Core.List.{List, [], ◌∷◌, map}
use Prim.Native.Nat.{ℕ, zero, suc, ◌≤◌}
use native.Mathlib.Omega.{arith}
use borrow.Author.Tests.{leb-true}
use lib.Dec.{leb}
use Rattle.theory.proofs.Tests.{both, and_i}
use Rattle.std.specs.Prelude.{Some}
use Rattle.protocol.specs.declared.ObjectKind.TheVariants as kind
use Rattle.objects.specs.declared.Slot.{Slot}
use Rattle.objects.specs.declared.Slot.TheVariants.{Free, Get, Set}
use Rattle.objects.specs.declared.ObjectRecord.{ObjectRecord}
use Rattle.objects.specs.Objects.{slot_of, slot_byte, object_of, object_byte, found_in, all_up_to}

pub object-other : (b : ℕ) → (b ≡ 0 → ⊥) → (b ≡ 1 → ⊥) → record { slot = Set } ≡ object_of b
object-other zero n m = absurd (n refl)
object-other (suc zero) n m = absurd (m refl)
object-other (suc (suc b)) n m = refl

pub found-other : (b : ℕ) → (b ≡ 0 → ⊥) → (b ≡ 1 → ⊥) → Some kind.Set ≡ found_in (slot_of b)
found-other b n m = ap (λ (o : ObjectRecord). found_in o.slot) (object-other b n m)

pub found_get : (s : Slot) → s ≡ Get → Some kind.Get ≡ found_in s
found_get s e = rw e

pub found-set : (s : Slot) → s ≡ Set → Some kind.Set ≡ found_in s
found-set s e = rw e

-- ---- bytes and objects ----

slot-back : (s : Slot) → slot_of (slot_byte s) ≡ s
slot-back Free = refl
slot-back Get = refl
slot-back Set = refl

pub objects-back : (os : List ObjectRecord) → map object_of (map object_byte os) ≡ os
objects-back [] = refl
objects-back (o ∷ os) = rw (slot-back o.slot, objects-back os)

byte-of-slot : (b : ℕ) → b ≤ 2 → slot_byte (slot_of b) ≡ b
byte-of-slot zero h = refl
byte-of-slot (suc zero) h = refl
byte-of-slot (suc (suc b)) h = omega arith

pub bytes-of-objects : (bs : List ℕ) → all_up_to 2 bs ≡ true → map object_byte (map object_of bs) ≡ bs
unfolding all_up_to
bytes-of-objects [] e = refl
bytes-of-objects (b ∷ bs) e =
    let p = both _ _ e in
    rw (byte-of-slot b (leb-true b 2 p.0), bytes-of-objects bs p.1)

slot-low : (s : Slot) → leb (slot_byte s) 2 ≡ true
slot-low Free = refl
slot-low Get = refl
slot-low Set = refl

pub objects-low : (os : List ObjectRecord) → all_up_to 2 (map object_byte os) ≡ true
unfolding all_up_to
objects-low [] = refl
objects-low (o ∷ os) = and_i _ _ (slot-low o.slot) (objects-low os)

pub bytes_low : (os : List ObjectRecord) (bs : List ℕ) → bs ≡ map object_byte os → all_up_to 2 bs ≡ true
bytes_low os bs e = rw e (objects-low os)
