-- Worked examples, so that no claim of specs/Exact.antt is empty: a damaged list with parts of each fate, cut in its last header
-- and in its last value, and a whole capture. Assumes nothing.
use mathlib.Core.Path.{◌≡◌, refl}
use mathlib.Core.Bool.{Bool, true}
use mathlib.Core.List.{List, [], ◌∷◌, ◌++◌}
use Prim.Native.Nat.{ℕ}
use native.Mathlib.Omega.{arith}
use lib.Dec.{eqb}
use lib.ListN.{replicate}
use Rattle.theory.specs.Logic.{when◌then◌else◌, unless◌answer◌then◌, ◌and◌, ◌or◌, within, indicator}
use Rattle.theory.specs.Bytes.{put, same}
use Rattle.theory.specs.Items.{items_from}
use Rattle.theory.proofs.Table.{every}
use Rattle.wire.specs.Le.{le, bytes, number}
use Rattle.inventory.specs.declared.Row.{Row}
use Rattle.inventory.specs.Inventory.{rows, row_at, present, offset_of, selector_of, is_row, seek, place_of}
use Rattle.inventory.specs.Queue.{power_below, ring_size, queue_allowed, value_allowed}
use Rattle.inventory.specs.Header.{header_of}
use Rattle.inventory.proofs.Rules.{every-row}
use Rattle.parts.specs.declared.ListForm.TheVariants.{Parts}
use Rattle.parts.specs.List.{header_at, step_at, at_most, parts_from, parts_of, whole, among}
use Rattle.rules.specs.Rules.{known, known_or_skipped, length_right, size_right, features_same, every as every_part, repeated, cause_in}
use Rattle.capture.specs.Capture.{part_at, asks, part_item, parts_written, capture_of}
use Rattle.member.specs.Member.{fresh_of}
use Rattle.salvage.specs.Salvage.{value_right, allowed, is_copy, kept_or, is_kept, fate_of, dropped_from, bytes_read, fresh_value, repaired_item, repaired, kept_item, kept_report, dropped_report, Salvage, salvage, is_taken, salvaged, salvage_of}
use Rattle.salvage.specs.Claims.{InSetup, HasRow}
use Rattle.salvage.specs.Exact.{Asks, FirstCopy, here, JustTheInventory}

-- every definition, opened at once
unfoldable model : Unit {0}
unfolding when◌then◌else◌ unless◌answer◌then◌ ◌and◌ ◌or◌ within indicator put same items_from le bytes number
    rows row_at present offset_of selector_of is_row seek place_of power_below ring_size queue_allowed value_allowed header_of
    header_at step_at at_most parts_from whole among known known_or_skipped length_right size_right features_same every_part repeated cause_in part_at asks part_item parts_written fresh_of
    value_right allowed is_copy kept_or is_kept fate_of dropped_from bytes_read fresh_value repaired_item repaired kept_item kept_report dropped_report
    is_taken salvaged salvage_of
model = tt

abbrev zeros : ℕ → List ℕ
zeros n = replicate n 0

abbrev features : List ℕ
features = zeros 16

-- a part of a type whose high byte is 1, with a value of n bytes and selector 0
abbrev piece : ℕ → ℕ → List ℕ → List ℕ
piece t n x = (t ∷ 1 ∷ zeros 10) ++ ((n ∷ zeros 3) ++ x)

-- a device status of no bytes, and other device features than the setup's
abbrev none : List ℕ
none = piece 3 0 []

abbrev other : List ℕ
other = piece 0 16 (1 ∷ zeros 15)

-- An unknown part. Three of a wrong size, the last with a wrong value too. Two with wrong values, the second a queue of size 100.
-- Status 15 and the setup's device features are kept. Four copies after them: two of a wrong size, one that is allowed, one with a
-- wrong value.
abbrev parts : List ℕ
parts =
    piece 9 1 (7 ∷ [])
    ++ (none ++ (none ++ piece 0 0 []))
    ++ (other ++ piece 4 32 (100 ∷ zeros 31))
    ++ (piece 3 1 (15 ∷ []) ++ piece 0 16 features)
    ++ (none ++ (none ++ (piece 3 1 (7 ∷ []) ++ other)))

-- five bytes of a header; and a header with three of the eight bytes of its value, of a queue's notify data
abbrev torn_header : List ℕ
torn_header = parts ++ (1 ∷ 1 ∷ zeros 3)

abbrev torn_value : List ℕ
torn_value = parts ++ piece 5 8 (1 ∷ 2 ∷ 3 ∷ [])

-- the capture of a fresh member with one queue
abbrev fresh : List ℕ
fresh = capture_of 1 (zeros 205)

-- buffers one longer than is asked, filled with nines
abbrev called : List ℕ → Salvage
called l = salvage_of 1 features l (salvage 0 (replicate 230 9) (replicate 10 9) (replicate 5 9) 9)

-- what is written: the status is byte 156 of a capture
abbrev two_kept : ℕ → Salvage
two_kept left =
    salvage 229 (put 156 (15 ∷ []) fresh ++ (9 ∷ [])) (1 ∷ 0 ∷ 0 ∷ 0 ∷ 0 ∷ 0 ∷ 1 ∷ 0 ∷ 0 ∷ 9 ∷ []) (1 ∷ 4 ∷ 3 ∷ 2 ∷ 9 ∷ []) left

abbrev alike : Salvage → Salvage → Bool
alike a b =
    eqb a.written b.written and same a.list b.list and same a.kept b.kept and same a.dropped b.dropped
    and eqb a.left b.left

header-torn : alike (called torn_header) (two_kept 5) ≡ true
unfolding model
header-torn = refl

value-torn : alike (called torn_value) (two_kept 19) ≡ true
unfolding model
value-torn = refl

-- a whole capture comes back
returned : alike (called fresh) (salvage 229 (fresh ++ (9 ∷ [])) (replicate 9 1 ++ (9 ∷ [])) (0 ∷ 0 ∷ 0 ∷ 0 ∷ 9 ∷ []) 0) ≡ true
unfolding model
returned = refl

-- room for one byte less: nothing is written
refused : alike (salvage_of 1 features parts (salvage 0 (replicate 228 9) (zeros 9) (zeros 4) 9)) (salvage 0 (replicate 228 9) (zeros 9) (zeros 4) 9) ≡ true
unfolding model
refused = refl

-- ---- the hypotheses of the claims ----

in-setup : InSetup 1 features
unfolding model
in-setup = record { count = refl; long = refl }

-- what is asked, with buffers of just the length
asked : Asks (record { queues = 1; features = features }) parts (salvage 0 (zeros 229) (zeros 9) (zeros 4) 0)
asked = record { short = omega arith; list = omega arith; kept = omega arith; dropped = omega arith }

-- of two allowed copies of the device status, row 6, the first
first : FirstCopy features 6 (15 ∷ []) (parts_of Parts (piece 3 1 (15 ∷ []) ++ piece 3 1 (7 ∷ [])))
unfolding model
first =
    here (record { type-is = refl; selector-is = refl; sized = refl; ring = refl; own-features = λ e. absurd (omega arith) }) refl

-- each row of the table is there, if the member has it
abbrev has_row : Row → Bool
has_row r = when present 1 r then among r.part_type r.selector (parts_of Parts fresh) else true

has-rows : every (λ k r. has_row r) 0 rows ≡ true
unfolding model every
has-rows = refl

undamaged-each : (i : ℕ) → HasRow 1 i → among (row_at i).part_type (row_at i).selector (parts_of Parts fresh) ≡ true
unfolding when◌then◌else◌
undamaged-each i r = rw r.there at (every-row (λ k r. has_row r) has-rows i r.below)

undamaged : JustTheInventory 1 features fresh
unfolding model
undamaged = record { accepted = refl; each = undamaged-each; inventory = refl }
