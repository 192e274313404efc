-- Resource objects, SPEC 4.3, as bytes and records, and how many there are. Assumes nothing.
use Rattle.std.specs.Prelude.{Bool, true, List, [], ◌∷◌, ◌++◌, ℕ, zero, suc, ◌+◌, ◌-◌, leb, eqb, replicate, Option, Some, None}
use Rattle.theory.specs.Logic.{◌and◌, indicator}
use Rattle.protocol.specs.declared.ObjectKind.{ObjectKind}
use Rattle.protocol.specs.declared.ObjectKind.TheVariants as kind
use Rattle.objects.specs.declared.Slot.{Slot}
use Rattle.objects.specs.declared.Slot.TheVariants.{Free, Get, Set}
use Rattle.objects.specs.declared.ObjectRecord.{ObjectRecord}

-- one object record for each id that any setup allows: G + S is at most 16
abbrev pub objects_size : ℕ
objects_size = 16

-- 0 free, 1 get, 2 set
abbrev pub slot_of : ℕ → Slot
slot_of zero = Free
slot_of (suc zero) = Get
slot_of (suc (suc n)) = Set

abbrev pub slot_byte : Slot → ℕ
slot_byte Free = 0
slot_byte Get = 1
slot_byte Set = 2

abbrev pub object_of : ℕ → ObjectRecord
object_of b = record { slot = slot_of b }

abbrev pub object_byte : ObjectRecord → ℕ
object_byte o = slot_byte o.slot

abbrev pub free : ObjectRecord
free = record { slot = Free }

-- the slot of an object of this kind, or of none, and what the lookup of a slot finds
abbrev pub slot_for : Option ObjectKind → Slot
slot_for None = Free
slot_for (Some kind.Get) = Get
slot_for (Some kind.Set) = Set

abbrev pub found_in : Slot → Option ObjectKind
found_in Free = None
found_in Get = Some kind.Get
found_in Set = Some kind.Set

abbrev pub on_found : {A : Type 0} → Option ObjectKind → (ObjectKind → A) → A → A
on_found (Some k) f a = f k
on_found None f a = a

-- how many of the object bytes are v, and whether each is at most n
unfoldable pub count : ℕ → List ℕ → ℕ
count v [] = 0
count v (b ∷ bs) = indicator (eqb b v) + count v bs

unfoldable pub all_up_to : ℕ → List ℕ → Bool
all_up_to n [] = true
all_up_to n (b ∷ bs) = leb b n and all_up_to n bs

-- each byte is at most the number beside it
unfoldable pub all_within : List ℕ → List ℕ → Bool
all_within [] bs = true
all_within (n ∷ ns) [] = true
all_within (n ∷ ns) (b ∷ bs) = leb b n and all_within ns bs

-- the most that the object bytes may be, where so many are those of ids: 2, and 0 for the others
unfoldable pub most_of : ℕ → List ℕ
most_of ids = replicate ids 2 ++ replicate (objects_size - ids) 0

-- at most G get and S set objects
unfoldable pub within_limits : ℕ → ℕ → List ℕ → Bool
within_limits gets sets bs = leb (count (slot_byte Get) bs) gets and leb (count (slot_byte Set) bs) sets
