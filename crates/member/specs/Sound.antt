-- When a member's record is sound (01's term): SPEC 2.4. Assumes nothing.
use Rattle.std.specs.Prelude.{Bool, List, ℕ, ◌+◌, leb, eqb, get_or, drop}
use Rattle.theory.specs.Logic.{◌and◌, ◌or◌, within}
use Rattle.theory.specs.Bytes.{bytes_at, same}
use Rattle.wire.specs.Le.{number}
use Rattle.inventory.specs.Inventory.{values_size}
use Rattle.inventory.specs.Queue.{queues_allowed}
use Rattle.objects.specs.Objects.{all_up_to, within_limits}
use Rattle.member.specs.Record.{mode_at, mark_at, queues_at, object_bytes, held_at, values_at, holding_size}
use Rattle.member.specs.Member.{features_size}

-- its mark is 1, and the member is stopped with no holding place and no live object (02, request 10)
unfoldable pub sound_end : List ℕ → Bool
sound_end r = eqb (get_or r mark_at 0) 1 and eqb (get_or r mode_at 0) 1 and eqb (number held_at 2 r) 0 and all_up_to 0 (object_bytes r)

-- its mark is 0, or it is as it was handed back
unfoldable pub sound_mark : List ℕ → Bool
sound_mark r = eqb (get_or r mark_at 0) 0 or sound_end r

-- its mode and its mark have a meaning, and it has 1 to 4 queues (02, request 9)
unfoldable pub sound_front : List ℕ → Bool
sound_front r = leb (get_or r mode_at 0) 1 and within 1 4 (get_or r queues_at 0) and sound_mark r

-- its holding place holds at most 1,024 bytes; its objects are bytes that have a meaning; live ids are below G + S; it has at
-- most G get and S set objects, and the setup's device features; none of its queues has a size that no ring has: SPEC 13.5
unfoldable pub sound_record : ℕ → ℕ → List ℕ → List ℕ → Bool
sound_record gets sets features r =
    sound_front r
    and leb (number held_at 2 r) (1 + holding_size)
    and all_up_to 2 (object_bytes r)
    and all_up_to 0 (drop (gets + sets) (object_bytes r))
    and within_limits gets sets (object_bytes r)
    and same (bytes_at values_at features_size r) features
    and queues_allowed (get_or r queues_at 0) (bytes_at values_at values_size r)
