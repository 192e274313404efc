-- A list that step 10 passes, made of a damaged one, and the report of it: 02, request 8. Assumes nothing.
use Rattle.std.specs.Prelude.{Bool, false, not, List, [], ◌∷◌, ◌++◌, ℕ, ◌+◌, ◌-◌, leb, eqb, length, Option, Some, None}
use Rattle.theory.specs.Logic.{when◌then◌else◌, unless◌answer◌then◌, ◌and◌, ◌or◌, within, indicator}
use Rattle.theory.specs.Bytes.{put}
use Rattle.theory.specs.Items.{items_from}
use Rattle.inventory.specs.Inventory.{row_at, row_count, features_size, present, part_count, parts_size, value_of}
use Rattle.inventory.specs.Queue.{value_allowed}
use Rattle.inventory.specs.Header.{header_size, header_of}
use Rattle.parts.specs.declared.ListForm.TheVariants.{Parts}
use Rattle.parts.specs.List.{Part, PartList, end, cut, part, parts_of, longest_list}
use Rattle.rules.specs.Rules.{known, length_right, features_same}
use Rattle.member.specs.Member.{fresh_of}
use Rattle.setups.specs.declared.MemberSetup.{MemberSetup}

-- ---- the parts that are kept ----

-- the two rules of a known part's value, one cause here: a queue's size is one that a ring has (request 5), and device
-- features are the setup's
unfoldable pub value_right : List ℕ → Part → Bool
value_right features p = value_allowed p.part_type p.value and features_same features p

-- what document 01 and request 5 allow: a part of the inventory, as long as the table says, rightly valued
unfoldable pub allowed : ℕ → List ℕ → Part → Bool
allowed queues features p =
    known queues p.part_type p.selector and (length_right queues p and value_right features p)

-- an allowed copy of the part of this type and selector
unfoldable pub is_copy : ℕ → List ℕ → ℕ → ℕ → Part → Bool
is_copy queues features t s p = eqb p.part_type t and eqb p.selector s and allowed queues features p

-- the first of these is kept: its value, or x where there is none
unfoldable pub kept_or : ℕ → List ℕ → ℕ → ℕ → List ℕ → PartList → List ℕ
kept_or queues features t s x end = x
kept_or queues features t s x cut = x
kept_or queues features t s x (part p ps) =
    when is_copy queues features t s p then p.value else kept_or queues features t s x ps

-- whether there is one
unfoldable pub is_kept : ℕ → List ℕ → ℕ → ℕ → PartList → Bool
is_kept queues features t s end = false
is_kept queues features t s cut = false
is_kept queues features t s (part p ps) = is_copy queues features t s p or is_kept queues features t s ps

-- ---- the parts that are dropped, up to the first header or value that runs past the end ----

-- the causes, by their place in the report
abbrev pub unknown : ℕ
unknown = 0

abbrev pub copy : ℕ
copy = 1

abbrev pub wrong_size : ℕ
wrong_size = 2

abbrev pub wrong_value : ℕ
wrong_value = 3

pub data Fate : Type 0 where
  Kept : Fate
  Dropped : ℕ → Fate

-- what becomes of a part, and whether a copy of it was kept before: the first cause that applies
unfoldable pub fate_of : ℕ → List ℕ → Bool → Part → Fate
fate_of queues features before p =
    unless known queues p.part_type p.selector answer Dropped unknown then
    unless not before answer Dropped copy then
    unless length_right queues p answer Dropped wrong_size then
    unless value_right features p answer Dropped wrong_value then
    Kept

abbrev pub is_dropped : ℕ → Fate → Bool
is_dropped cause Kept = false
is_dropped cause (Dropped c) = eqb c cause

-- how many are dropped for a cause, after the parts of `before`; a part that is cut is in no count
unfoldable pub dropped_from : ℕ → List ℕ → ℕ → PartList → PartList → ℕ
dropped_from queues features cause before end = 0
dropped_from queues features cause before cut = 0
dropped_from queues features cause before (part p ps) =
    indicator (is_dropped cause (fate_of queues features (is_kept queues features p.part_type p.selector before) p))
    + dropped_from queues features cause (part p before) ps

-- ---- the bytes left over ----

-- the bytes of the whole parts
unfoldable pub bytes_read : PartList → ℕ
bytes_read end = 0
bytes_read cut = 0
bytes_read (part p ps) = header_size + length p.value + bytes_read ps

-- from the start of the header at which the walk stopped
abbrev pub left_over : List ℕ → ℕ
left_over damaged = length damaged - bytes_read (parts_of Parts damaged)

-- ---- what is written ----

-- a row's value of a fresh member: SPEC 2.5
unfoldable pub fresh_value : ℕ → List ℕ → ℕ → List ℕ
fresh_value queues features i = value_of (fresh_of queues features).values i

module _ (queues : ℕ) (features damaged : List ℕ) where
  abbrev pub is_kept_row : ℕ → Bool
  is_kept_row i = is_kept queues features (row_at i).part_type (row_at i).selector (parts_of Parts damaged)

  -- what is missing has the fresh value
  abbrev pub row_value : ℕ → List ℕ
  row_value i =
      kept_or queues features (row_at i).part_type (row_at i).selector (fresh_value queues features i) (parts_of Parts damaged)

  -- the table's headers in the table's order
  unfoldable pub repaired_item : ℕ → List ℕ
  repaired_item i = when present queues (row_at i) then header_of (row_at i) ++ row_value i else []

  unfoldable pub repaired : List ℕ
  repaired = items_from repaired_item row_count 0

  -- for every part of the inventory 1 if it is kept, 0 if it is filled
  unfoldable pub kept_item : ℕ → List ℕ
  kept_item i = when present queues (row_at i) then indicator (is_kept_row i) ∷ [] else []

  unfoldable pub kept_report : List ℕ
  kept_report = items_from kept_item row_count 0

  unfoldable pub dropped_report : List ℕ
  dropped_report = count unknown ∷ count copy ∷ count wrong_size ∷ count wrong_value ∷ []
    where
      count : ℕ → ℕ
      count cause = dropped_from queues features cause end (parts_of Parts damaged)

-- ---- the call ----

-- the bytes written and what is lent
pub record Salvage : Type 0 where
  pub written : ℕ
  pub list : List ℕ
  pub kept : List ℕ
  pub dropped : List ℕ
  pub left : ℕ

abbrev pub salvage : ℕ → List ℕ → List ℕ → List ℕ → ℕ → Salvage
salvage written list kept dropped left =
    record { written = written; list = list; kept = kept; dropped = dropped; left = left }

-- what is not refused: a queue count and features of a setup, a list that is not too long, and buffers with room for what is
-- written, each by its length
unfoldable pub is_taken : ℕ → ℕ → ℕ → ℕ → ℕ → ℕ → Bool
is_taken queues features damaged list kept dropped =
    within 1 4 queues and eqb features features_size and leb damaged longest_list
    and leb (parts_size queues) list and leb (part_count queues) kept and leb 4 dropped

-- b is what was there before the call
unfoldable pub salvaged : ℕ → List ℕ → List ℕ → Salvage → Salvage
salvaged queues features damaged b =
    salvage (parts_size queues)
    (put 0 (repaired queues features damaged) b.list)
    (put 0 (kept_report queues features damaged) b.kept)
    (put 0 (dropped_report queues features damaged) b.dropped)
    (left_over damaged)

-- what is refused writes nothing
abbrev pub refused : Salvage → Salvage
refused b = salvage 0 b.list b.kept b.dropped b.left

unfoldable pub salvage_of : ℕ → List ℕ → List ℕ → Salvage → Salvage
salvage_of queues features damaged b =
    when is_taken queues (length features) (length damaged) (length b.list) (length b.kept) (length b.dropped)
    then salvaged queues features damaged b
    else refused b

-- s is what the setup says of the member; a bad setup, or a number that is no member's, is refused by the same name
unfoldable pub salvage_under : Option MemberSetup → List ℕ → Salvage → Salvage
salvage_under None damaged b = refused b
salvage_under (Some s) damaged b = salvage_of s.queues s.features damaged b
