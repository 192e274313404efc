-- The headers and the parts of a member as bytes: SPEC 4.8 and 4.9. Assumes nothing.
use Rattle.std.specs.Prelude.{Bool, List, [], ◌++◌, ◌≡◌, ℕ, ◌≤◌, ◌<◌, length}
use Rattle.theory.specs.Logic.{when◌then◌else◌, ◌and◌}
use Rattle.theory.specs.Items.{items_from}
use Rattle.inventory.specs.declared.Row.{Row}
use Rattle.inventory.specs.Inventory.{row_at, row_count, present, values_size, parts_size, value_of}
use Rattle.inventory.specs.Header.{header_of}
use Rattle.parts.specs.declared.ListForm.TheVariants.{Headers}
use Rattle.parts.specs.List.{parts_of, among}

-- the headers of the parts that a member has, in the order of the table
unfoldable pub header_item : ℕ → ℕ → List ℕ
header_item queues i = when present queues (row_at i) then header_of (row_at i) else []

unfoldable pub headers_of : ℕ → List ℕ
headers_of queues = items_from (header_item queues) row_count 0

-- a part: the header and the value
unfoldable pub part_at : List ℕ → ℕ → List ℕ
part_at values i = header_of (row_at i) ++ value_of values i

-- all parts that the member has, or those of them that the asked list names
pub data Selection : Type 0 where
  All : Selection
  Asked : Selection

unfoldable pub asks : Selection → ℕ → List ℕ → Row → Bool
asks All queues list r = present queues r
asks Asked queues list r = present queues r and among r.part_type r.selector (parts_of Headers list)

unfoldable pub part_item : Selection → ℕ → List ℕ → List ℕ → ℕ → List ℕ
part_item selection queues list values i = when asks selection queues list (row_at i) then part_at values i else []

-- in the order of the table, whatever the order of the list
unfoldable pub parts_written : Selection → ℕ → List ℕ → List ℕ → List ℕ
parts_written selection queues list values = items_from (part_item selection queues list values) row_count 0

-- a full capture
abbrev pub capture_of : ℕ → List ℕ → List ℕ
capture_of queues values = parts_written All queues [] values

-- what a full capture asks: the values of a member with so many queues, and room for all its parts
pub record CaptureFits (queues : ℕ) (values out : List ℕ) : Type 0 where
  pub few : queues < 5
  pub long : length values ≡ values_size
  pub room : parts_size queues ≤ length out
