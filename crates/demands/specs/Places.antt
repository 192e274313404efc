-- REQUEST 4, SPEC 13.4: the place of a part, said of the member's own inventory of 7 + 2Q parts. Assumes nothing.
use Rattle.std.specs.Prelude.{◌≡◌, List, [], ◌∷◌, ℕ, ◌+◌, ◌*◌, ◌≤◌, ◌<◌, length, get_or, Some, None}
use Rattle.theory.specs.Logic.{when◌then◌else◌}
use Rattle.theory.specs.Bytes.{bytes_at}
use Rattle.inventory.specs.declared.Row.{Row}
use Rattle.inventory.specs.Inventory.{rows, row_at, row_count, present, part_count, place_of}
use Rattle.inventory.specs.Header.{header_of, header_size}
use Rattle.capture.specs.Capture.{headers_of}

-- the rows of the parts that a member with so many queues has, in the order of the table, among these rows from the i-th
unfoldable pub own_from : ℕ → List Row → ℕ → List ℕ
own_from queues [] i = []
own_from queues (r ∷ rs) i = when present queues r then i ∷ own_from queues rs (i + 1) else own_from queues rs (i + 1)

unfoldable pub own_rows : ℕ → List ℕ
own_rows queues = own_from queues rows 0

-- the row of the p-th part, from 0
abbrev pub row_of : ℕ → ℕ → ℕ
row_of queues p = get_or (own_rows queues) p row_count

-- the p-th part of the member's inventory has this type and selector
pub record Has (queues t s p : ℕ) : Type 0 where
  pub type-is : (row_at (row_of queues p)).part_type ≡ t
  pub selector-is : (row_at (row_of queues p)).selector ≡ s

-- For every type and selector the place that is found is the p-th exactly if the p-th part of the member's inventory, the
-- p-th header of its metadata list, has this type and selector; and none exactly if no part of it has. Example:
-- ../proofs/PlacesExample.antt
pub record PlaceFound (queues : ℕ) : Type 0 where
  -- the inventory
  pub count : length (own_rows queues) ≡ part_count queues
  pub header : (p : ℕ) → p < part_count queues → bytes_at (header_size * p) header_size (headers_of queues) ≡ header_of (row_at (row_of queues p))
  -- the p-th
  pub found : (t s p : ℕ) → p < part_count queues → place_of queues t s ≡ Some (row_of queues p) → Has queues t s p
  pub there : (t s p : ℕ) → p < part_count queues → Has queues t s p → place_of queues t s ≡ Some (row_of queues p)
  -- none
  pub absent : (t s p : ℕ) → p < part_count queues → place_of queues t s ≡ None → Has queues t s p → ⊥
  pub lacking : (t s : ℕ) → ((p : ℕ) → p < part_count queues → Has queues t s p → ⊥) → place_of queues t s ≡ None

-- whatever the queue count
abbrev pub PlacesFound : Type 0
PlacesFound = (queues : ℕ) → 1 ≤ queues → queues ≤ 4 → PlaceFound queues
