-- The resource objects of a member, by id: SPEC 4.3. Assumes nothing.
use Rattle.std.specs.Prelude.{Bool, map, ℕ, get_or, set, Option}
use Rattle.objects.specs.Objects.{object_byte, free, slot_for, found_in, within_limits}
use Rattle.member.specs.declared.Member.{Member}
use Rattle.protocol.specs.declared.ObjectKind.{ObjectKind}

-- the live object of an id
unfoldable pub lookup_of : Member → ℕ → Option ObjectKind
lookup_of m id = found_in (get_or m.objects id free).slot

-- the member with this at the id, and all else kept
unfoldable pub with_object : Member → ℕ → Option ObjectKind → Member
with_object m id s =
    record { mode = m.mode; marked = m.marked; queues = m.queues; objects = set m.objects id (record { slot = slot_for s }); held = m.held; values = m.values }

-- at most G get and S set objects
abbrev pub room_in : ℕ → ℕ → Member → Bool
room_in gets sets m = within_limits gets sets (map object_byte m.objects)
