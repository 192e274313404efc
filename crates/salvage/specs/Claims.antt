-- WHAT IS CLAIMED of a salvaged list and its report: 02, request 8. The record Claims at the end lists it, ../proofs/Claims.antt
-- proves it, and ../proofs/Example.antt has lists that meet the hypotheses. Assumes nothing.
use Rattle.std.specs.Prelude.{◌≡◌, Bool, true, false, List, [], ℕ, ◌+◌, ◌-◌, ◌<◌, eqb, length, replicate}
use Rattle.theory.specs.Logic.{◌and◌, ◌or◌, within}
use Rattle.theory.specs.Bytes.{same}
use Rattle.inventory.specs.Inventory.{features_size, row_at, row_count, present, total, part_count}
use Rattle.parts.specs.declared.ListForm.TheVariants.{Parts}
use Rattle.parts.specs.Step.{Cut}
use Rattle.parts.specs.List.{step_at, PartList, end, cut, part, parts_of, whole, among, value_or}
use Rattle.rules.specs.Rules.{cause_of, is_accepted}
use Rattle.salvage.specs.Salvage.{left_over, fresh_value, is_kept_row, repaired, kept_report, dropped_report}

-- a queue count and device features of a setup
pub record InSetup (queues : ℕ) (features : List ℕ) : Type 0 where
  pub count : within 1 4 queues ≡ true
  pub long : length features ≡ features_size

-- a row that the member has
pub record HasRow (queues i : ℕ) : Type 0 where
  pub below : i < row_count
  pub there : present queues (row_at i) ≡ true

-- the value of row i's part in a list, the first if there are more
abbrev pub value_at : ℕ → List ℕ → List ℕ
value_at i l = value_or (row_at i).part_type (row_at i).selector (parts_of Parts l) []

-- some part has this type, selector and value
unfoldable pub stands : ℕ → ℕ → List ℕ → PartList → Bool
stands t s x end = false
stands t s x cut = false
stands t s x (part p ps) = (eqb p.part_type t and eqb p.selector s and same p.value x) or stands t s x ps

-- how many parts there are, up to one that is cut
unfoldable pub parts_read : PartList → ℕ
parts_read end = 0
parts_read cut = 0
parts_read (part p ps) = 1 + parts_read ps

-- Step 10 passes what is written
abbrev pub Passes : Type 0
Passes = (queues : ℕ) (features damaged : List ℕ) → InSetup queues features
    → is_accepted (cause_of queues features (repaired queues features damaged)) ≡ true

-- What is reported as kept has in it a value that stands in the damaged list, under the same type and selector; what is
-- reported as filled has the fresh value
pub record KeptOrFresh (queues : ℕ) (features damaged : List ℕ) (i : ℕ) : Type 0 where
  pub kept : is_kept_row queues features damaged i ≡ true
      → stands (row_at i).part_type (row_at i).selector (value_at i (repaired queues features damaged)) (parts_of Parts damaged) ≡ true
  pub filled : is_kept_row queues features damaged i ≡ false
      → value_at i (repaired queues features damaged) ≡ fresh_value queues features i

abbrev pub KeepsOrFills : Type 0
KeepsOrFills = (queues : ℕ) (features damaged : List ℕ) → InSetup queues features → (i : ℕ) → HasRow queues i
    → KeptOrFresh queues features damaged i

-- Each part of the inventory is kept or filled, and what is kept and dropped adds up to the parts read
pub record Counts (queues : ℕ) (features damaged : List ℕ) : Type 0 where
  pub rows : length (kept_report queues features damaged) ≡ part_count queues
  pub parts : total (kept_report queues features damaged) + total (dropped_report queues features damaged)
      ≡ parts_read (parts_of Parts damaged)

abbrev pub AddsUp : Type 0
AddsUp = (queues : ℕ) (features damaged : List ℕ) → InSetup queues features → Counts queues features damaged

-- each part of the inventory, none dropped, nothing left over; one that is there twice would be dropped
pub record Undamaged (queues : ℕ) (features list : List ℕ) : Type 0 where
  pub each : (i : ℕ) → HasRow queues i → among (row_at i).part_type (row_at i).selector (parts_of Parts list) ≡ true
  pub none_dropped : dropped_report queues features list ≡ replicate 4 0
  pub none_left : left_over list ≡ 0

-- it comes back with the same values and a report of all kept; the zeros are in the hypothesis
pub record Back (queues : ℕ) (features list : List ℕ) : Type 0 where
  pub values : (i : ℕ) → HasRow queues i → value_at i (repaired queues features list) ≡ value_at i list
  pub kept : kept_report queues features list ≡ replicate (part_count queues) 1

abbrev pub ComesBack : Type 0
ComesBack = (queues : ℕ) (features list : List ℕ) → InSetup queues features → Undamaged queues features list
    → Back queues features list

-- It stops at the end, and nothing is left over, or at a part that is cut: the bytes left over start with its header
pub record Stops (damaged : List ℕ) : Type 0 where
  pub at-end : whole (parts_of Parts damaged) ≡ true → left_over damaged ≡ 0
  pub at_cut : whole (parts_of Parts damaged) ≡ false → step_at Parts damaged (length damaged - left_over damaged) ≡ Cut

abbrev pub StopsAtCut : Type 0
StopsAtCut = (damaged : List ℕ) → Stops damaged

pub record Claims : Type 0 where
  pub passes : Passes
  pub keeps-or-fills : KeepsOrFills
  pub adds-up : AddsUp
  pub comes_back : ComesBack
  pub stops-at-cut : StopsAtCut
