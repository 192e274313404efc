-- WHAT IS CLAIMED of a salvage beside Claims.antt: exactly when it is done, byte for byte what it writes and reports, and which
-- lists come back. The record ExactClaims at the end lists it, ../proofs/Exact.antt proves it, and ../proofs/ExactExample.antt has
-- lists that meet the hypotheses. The sizes and numbers stand here as plain digits, apart from the definitions. Assumes nothing.
use Rattle.std.specs.Prelude.{◌≡◌, true, List, [], ◌∷◌, ◌++◌, ℕ, ◌+◌, ◌*◌, ◌-◌, ◌≤◌, ◌<◌, eqb, length, take, drop, replicate, Option, Some, None}
use Rattle.theory.specs.Logic.{when◌then◌else◌}
use Rattle.theory.specs.Items.{items_from}
use Rattle.wire.specs.Le.{number}
use Rattle.inventory.specs.Inventory.{features_size, row_at, row_count, present, total, value_of}
use Rattle.inventory.specs.Queue.{value_allowed}
use Rattle.parts.specs.declared.ListForm.TheVariants.{Parts}
use Rattle.parts.specs.List.{Part, PartList, part, parts_of, whole, among}
use Rattle.rules.specs.Rules.{known, every, cause_of, is_accepted}
use Rattle.capture.specs.Capture.{capture_of}
use Rattle.setups.specs.declared.MemberSetup.{MemberSetup}
use Rattle.setups.specs.Member.{member_setup}
use Rattle.salvage.specs.Salvage.{left_over, repaired, kept_report, dropped_report, Salvage, salvage, salvage_under}
use Rattle.salvage.specs.Claims.{InSetup, HasRow, value_at, parts_read, Undamaged}

-- ---- when it is done ----

-- what it asks beside a setup that has this member: at most 4,064 bytes, and room for the list, for a byte for each part and for
-- four counts; s is what the setup says of the member
pub record Asks (s : MemberSetup) (damaged : List ℕ) (b : Salvage) : Type 0 where
  pub short : length damaged ≤ 4064
  pub list : 157 + 72 * s.queues ≤ length b.list
  pub kept : 7 + 2 * s.queues ≤ length b.kept
  pub dropped : 4 ≤ length b.dropped

-- the list and the report at the front of what was lent, and the rest as it was
pub record Writes (s : MemberSetup) (damaged : List ℕ) (b after : Salvage) : Type 0 where
  pub written : after.written ≡ 157 + 72 * s.queues
  pub list : after.list ≡ repaired s.queues s.features damaged ++ drop (157 + 72 * s.queues) b.list
  pub kept : after.kept ≡ kept_report s.queues s.features damaged ++ drop (7 + 2 * s.queues) b.kept
  pub dropped : after.dropped ≡ dropped_report s.queues s.features damaged ++ drop 4 b.dropped
  pub left : after.left ≡ left_over damaged

-- it is done exactly if it is given what it asks, and else nothing is written
pub record DoneOrRefused (s : MemberSetup) (damaged : List ℕ) (b after : Salvage) : Type 0 where
  pub done : Asks s damaged b → Writes s damaged b after
  pub refused : (Asks s damaged b → ⊥) → after ≡ salvage 0 b.list b.kept b.dropped b.left

-- nor is anything where the setup has not this member
abbrev pub DoneUnder : Option MemberSetup → List ℕ → Salvage → Salvage → Type 0
DoneUnder None damaged b after = after ≡ salvage 0 b.list b.kept b.dropped b.left
DoneUnder (Some s) damaged b after = DoneOrRefused s damaged b after

abbrev pub DoneExactly : Type 0
DoneExactly =
    (setup : List ℕ) (m : ℕ) (damaged : List ℕ) (b : Salvage)
    → DoneUnder (member_setup setup m) damaged b (salvage_under (member_setup setup m) damaged b)

-- ---- what is written ----

-- what is allowed as row i's part: its type and selector, the table's length, a queue size that a ring has, and as device
-- features the setup's
pub record AllowedCopy (features : List ℕ) (i : ℕ) (p : Part) : Type 0 where
  pub type-is : p.part_type ≡ (row_at i).part_type
  pub selector-is : p.selector ≡ (row_at i).selector
  pub sized : length p.value ≡ (row_at i).size
  pub ring : value_allowed p.part_type p.value ≡ true
  pub own-features : p.part_type ≡ 0x100 → p.value ≡ features

-- x is the value of the first of these, among the parts up to one that is cut: no part before it is one
pub data FirstCopy (features : List ℕ) (i : ℕ) (x : List ℕ) : PartList → Type 0 where
  here : {p : Part} {ps : PartList} → AllowedCopy features i p → p.value ≡ x → FirstCopy features i x (part p ps)
  later : {p : Part} {ps : PartList} → (AllowedCopy features i p → ⊥) → FirstCopy features i x ps
      → FirstCopy features i x (part p ps)

-- what a fresh member has in row i: the setup's device features, else zeros
abbrev pub fresh_bytes : List ℕ → ℕ → List ℕ
fresh_bytes features i = when eqb (row_at i).part_type 0x100 then features else replicate (row_at i).size 0

-- row i has the value x, and the report k for it: 1 exactly if there is an allowed copy, and x is the first one's value; else 0,
-- and x is fresh
pub record FirstOrFresh (features : List ℕ) (ps : PartList) (i k : ℕ) (x : List ℕ) : Type 0 where
  pub kept : k ≡ 1 → FirstCopy features i x ps
  pub first : (y : List ℕ) → FirstCopy features i y ps → k ≡ 1
  pub filled : (k ≡ 1 → ⊥) → (k ≡ 0) × (x ≡ fresh_bytes features i)

-- the list is, byte for byte, the full capture of a member that has these values; the report has a number for each row that the
-- member has, in the order of the table
pub record Captures (queues : ℕ) (features damaged : List ℕ) : Type 0 where
  pub values : List ℕ
  pub numbers : ℕ → ℕ
  pub list : repaired queues features damaged ≡ capture_of queues values
  pub report : kept_report queues features damaged ≡ items_from (λ i. when present queues (row_at i) then numbers i ∷ [] else []) 15 0
  pub each : (i : ℕ) → HasRow queues i → FirstOrFresh features (parts_of Parts damaged) i (numbers i) (value_of values i)

abbrev pub WritesCapture : Type 0
WritesCapture = (queues : ℕ) (features damaged : List ℕ) → InSetup queues features → Captures queues features damaged

-- ---- what is reported ----

-- Each part of the inventory is kept or filled, there are four causes, and what is kept and dropped adds up to the parts read
pub record ExactCounts (queues : ℕ) (features damaged : List ℕ) : Type 0 where
  pub rows : length (kept_report queues features damaged) ≡ 7 + 2 * queues
  pub causes : length (dropped_report queues features damaged) ≡ 4
  pub parts : total (kept_report queues features damaged) + total (dropped_report queues features damaged)
      ≡ parts_read (parts_of Parts damaged)

abbrev pub CountsExactly : Type 0
CountsExactly = (queues : ℕ) (features damaged : List ℕ) → InSetup queues features → ExactCounts queues features damaged

-- a place in a list: its end, or a header that runs past the end, or one whose value does; a header is 16 bytes, and the length
-- of the value is the last four of them
pub data StopsAt (l : List ℕ) (at : ℕ) : Type 0 where
  at_end : at ≡ length l → StopsAt l at
  in_header : at < length l → length l < at + 16 → StopsAt l at
  in_value : at + 16 ≤ length l → length l < at + 16 + number (at + 12) 4 l → StopsAt l at

-- The bytes left over are those from such a place on, and the list before it is whole. There is no other such place.
pub record StopsOnly (damaged : List ℕ) : Type 0 where
  pub inside : left_over damaged ≤ length damaged
  pub before : whole (parts_of Parts (take (length damaged - left_over damaged) damaged)) ≡ true
  pub stops : StopsAt damaged (length damaged - left_over damaged)
  pub only : (at : ℕ) → at ≤ length damaged → whole (parts_of Parts (take at damaged)) ≡ true → StopsAt damaged at
      → left_over damaged ≡ length damaged - at

abbrev pub StopsOnlyThere : Type 0
StopsOnlyThere = (damaged : List ℕ) → StopsOnly damaged

-- ---- a list that is not damaged ----

-- it comes back with the same values and a report of all kept and zeros
pub record BackWithZeros (queues : ℕ) (features list : List ℕ) : Type 0 where
  pub values : (i : ℕ) → HasRow queues i → value_at i (repaired queues features list) ≡ value_at i list
  pub kept : kept_report queues features list ≡ replicate (7 + 2 * queues) 1
  pub dropped : dropped_report queues features list ≡ replicate 4 0
  pub left : left_over list ≡ 0

-- by the report: each part of the inventory, none dropped, nothing left over
abbrev pub ComesBackWithZeros : Type 0
ComesBackWithZeros = (queues : ℕ) (features list : List ℕ) → InSetup queues features → Undamaged queues features list
    → BackWithZeros queues features list

-- by the list alone: the member accepts it, each part of the inventory is there, and no other
pub record JustTheInventory (queues : ℕ) (features list : List ℕ) : Type 0 where
  pub accepted : is_accepted (cause_of queues features list) ≡ true
  pub each : (i : ℕ) → HasRow queues i → among (row_at i).part_type (row_at i).selector (parts_of Parts list) ≡ true
  pub inventory : every (λ p. known queues p.part_type p.selector) (parts_of Parts list) ≡ true

abbrev pub UndamagedKept : Type 0
UndamagedKept = (queues : ℕ) (features list : List ℕ) → InSetup queues features → JustTheInventory queues features list
    → BackWithZeros queues features list

pub record ExactClaims : Type 0 where
  -- the two sizes that the hypotheses InSetup and HasRow name
  pub sizes : (features_size ≡ 16) × (row_count ≡ 15)
  pub done-exactly : DoneExactly
  pub writes-capture : WritesCapture
  pub counts-exactly : CountsExactly
  pub stops-only-there : StopsOnlyThere
  pub comes_back : ComesBackWithZeros
  pub undamaged-kept : UndamagedKept
