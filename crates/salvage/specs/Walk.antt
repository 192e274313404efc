-- The walk over a damaged list with what it has kept and dropped so far, for the private functions that take it. No public
-- contract cites this. Assumes nothing.
use Rattle.std.specs.Prelude.{not, List, [], ◌∷◌, ◌≡◌, ℕ, ◌+◌, ◌≤◌, ◌<◌, ◌^◌, eqb, length, get_or, set}
use Rattle.theory.specs.Logic.{when◌then◌else◌, unless◌answer◌then◌, indicator}
use Rattle.theory.specs.Bytes.{put}
use Rattle.theory.specs.Items.{items_from}
use Rattle.inventory.specs.Inventory.{features_size, row_at, row_count, present, offset_of, values_size, part_count, parts_size, place_of, on_place}
use Rattle.parts.specs.declared.ListForm.TheVariants.{Parts}
use Rattle.parts.specs.List.{Part, PartList, end, cut, part, parts_of, longest_list}
use Rattle.salvage.specs.Salvage.{value_right, unknown, copy, wrong_size, wrong_value, bytes_read}

-- the values of all rows, for each row 1 if it is kept, and the parts dropped for each cause
pub record State : Type 0 where
  pub values : List ℕ
  pub kept : List ℕ
  pub dropped : List ℕ

abbrev pub state : List ℕ → List ℕ → List ℕ → State
state values kept dropped = record { values = values; kept = kept; dropped = dropped }

-- one more is dropped for a cause
abbrev pub counted : List ℕ → ℕ → List ℕ
counted dropped cause = set dropped cause (get_or dropped cause 0 + 1)

abbrev pub dropping : State → ℕ → State
dropping s cause = state s.values s.kept (counted s.dropped cause)

abbrev pub keeping : State → ℕ → List ℕ → State
keeping s i value = state (put (offset_of i) value s.values) (set s.kept i 1) s.dropped

-- the next part
unfoldable pub taken : ℕ → List ℕ → Part → State → State
taken queues features p s =
    on_place (place_of queues p.part_type p.selector)
    (λ i.
    unless eqb (get_or s.kept i 0) 0 answer dropping s copy then
    unless eqb (length p.value) (row_at i).size answer dropping s wrong_size then
    unless value_right features p answer dropping s wrong_value then
    keeping s i p.value)
    (dropping s unknown)

-- all parts
unfoldable pub walked : ℕ → List ℕ → PartList → State → State
walked queues features end s = s
walked queues features cut s = s
walked queues features (part p ps) s = walked queues features ps (taken queues features p s)

-- how long what is lent is, that a flag is at most 1, and each count at most n
pub record Sized (n : ℕ) (s : State) : Type 0 where
  pub values : length s.values ≡ values_size
  pub kept : length s.kept ≡ row_count
  pub dropped : length s.dropped ≡ 4
  pub flags : (i : ℕ) → get_or s.kept i 0 ≤ 1
  pub counts : (cause : ℕ) → get_or s.dropped cause 0 ≤ n

-- there is a count for a cause, and it can grow
pub record Countable (dropped : List ℕ) (cause : ℕ) : Type 0 where
  pub there : cause < length dropped
  pub room : get_or dropped cause 0 + 1 < 2 ^ 32

-- what a walk over a damaged list leaves, and where it stopped
pub record Walked (queues : ℕ) (features damaged : List ℕ) (before after : State) (stop : ℕ) : Type 0 where
  pub leaves : after ≡ walked queues features (parts_of Parts damaged) before
  pub stops : stop ≡ bytes_read (parts_of Parts damaged)
  pub inside : stop ≤ length damaged

-- what it asks: nothing is dropped yet, and the list is not too long
pub record Begins (before : State) (damaged : List ℕ) : Type 0 where
  pub sized : Sized 0 before
  pub short : length damaged ≤ longest_list

-- ---- the report of kept rows ----

unfoldable pub flag_item : ℕ → List ℕ → ℕ → List ℕ
flag_item queues kept i = when present queues (row_at i) then indicator (not (eqb (get_or kept i 0) 0)) ∷ [] else []

unfoldable pub flags_of : ℕ → List ℕ → List ℕ
flags_of queues kept = items_from (flag_item queues kept) row_count 0

-- a flag for each row, and room for those of the rows that the member has
pub record KeptFits (queues : ℕ) (kept out : List ℕ) : Type 0 where
  pub few : queues < 5
  pub flags : length kept ≡ row_count
  pub room : part_count queues ≤ length out

-- ---- what is not refused ----

pub record Fits (queues : ℕ) (features damaged list kept dropped : List ℕ) : Type 0 where
  pub few : queues < 5
  pub features-long : length features ≡ features_size
  pub short : length damaged ≤ longest_list
  pub list-room : parts_size queues ≤ length list
  pub kept-room : part_count queues ≤ length kept
  pub dropped-room : 4 ≤ length dropped
