-- What a card store sets, SPEC 7.5, and what an accepted list sets, SPEC 5.7. Assumes nothing.
use Rattle.std.specs.Prelude.{List, ℕ, ltb, eqb, length, Ok, Err}
use Rattle.theory.specs.Logic.{when◌then◌else◌, unless◌answer◌then◌, ◌and◌}
use Rattle.theory.specs.Bytes.{put}
use Rattle.protocol.specs.declared.EventRefusal.TheVariants.{NoPart, WrongLength, BadQueueSize}
use Rattle.protocol.specs.Answers.{EventAnswer}
use Rattle.inventory.specs.Inventory.{features_row, row_at, offset_of, place_of, on_place}
use Rattle.inventory.specs.Queue.{value_allowed}
use Rattle.parts.specs.List.{PartList, end, cut, part}

-- whether a value can be stored; device features are never set, so they count as no part
unfoldable pub storable : ℕ → ℕ → ℕ → List ℕ → EventAnswer
storable queues t s value =
    on_place (place_of queues t s)
    (λ i.
    unless ltb features_row i answer Err NoPart then
    unless eqb (length value) (row_at i).size answer Err WrongLength then
    unless value_allowed t value answer Err BadQueueSize then  -- SPEC 13.5
    Ok tt)
    (Err NoPart)

-- the values with this one stored, where it can be
unfoldable pub stored : ℕ → ℕ → ℕ → List ℕ → List ℕ → List ℕ
stored queues t s value values =
    on_place (place_of queues t s)
    (λ i. when ltb features_row i and eqb (length value) (row_at i).size then put (offset_of i) value values else values)
    values

-- the values after a list, part by part; what is unknown is skipped
unfoldable pub applied : ℕ → PartList → List ℕ → List ℕ
applied queues end values = values
applied queues cut values = values
applied queues (part p ps) values =
    applied queues ps (stored queues p.part_type p.selector p.value values)
