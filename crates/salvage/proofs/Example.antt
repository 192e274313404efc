-- Worked examples, so that no claim is empty: a damaged list with a part for each fate, cut in its last header, and a whole
-- capture. Assumes nothing.
use mathlib.Core.Path.{◌≡◌, refl}
use mathlib.Core.Bool.{Bool, true}
use mathlib.Core.List.{List, [], ◌∷◌, ◌++◌}
use Prim.Native.Nat.{ℕ}
use lib.Dec.{eqb}
use lib.ListN.{replicate}
use Rattle.theory.specs.Logic.{when◌then◌else◌, unless◌answer◌then◌, ◌and◌, ◌or◌, within, indicator}
use Rattle.theory.specs.Bytes.{put, same}
use Rattle.theory.specs.Items.{items_from}
use Rattle.wire.specs.Le.{le, bytes, number}
use Rattle.inventory.specs.Inventory.{rows, row_at, present, offset_of, selector_of, is_row, seek, place_of}
use Rattle.inventory.specs.Queue.{power_below, ring_size, queue_allowed, value_allowed}
use Rattle.inventory.specs.Header.{header_of}
use Rattle.parts.specs.List.{header_at, step_at, at_most, parts_from}
use Rattle.rules.specs.Rules.{known, length_right, features_same}
use Rattle.capture.specs.Capture.{part_at, asks, part_item, parts_written, capture_of}
use Rattle.member.specs.Member.{fresh_of}
use Rattle.salvage.specs.Salvage.{value_right, allowed, is_copy, kept_or, is_kept, fate_of, dropped_from, bytes_read, fresh_value, repaired_item, repaired, kept_item, kept_report, dropped_report, Salvage, salvage, is_taken, salvaged, salvage_of}

-- every definition, opened at once
unfoldable model : Unit {0}
unfolding when◌then◌else◌ unless◌answer◌then◌ ◌and◌ ◌or◌ within indicator put same items_from le bytes number
    rows row_at present offset_of selector_of is_row seek place_of power_below ring_size queue_allowed value_allowed header_of
    header_at step_at at_most parts_from known length_right features_same part_at asks part_item parts_written fresh_of
    value_right allowed is_copy kept_or is_kept fate_of dropped_from bytes_read fresh_value repaired_item repaired kept_item kept_report dropped_report
    is_taken salvaged salvage_of
model = tt

abbrev zeros : ℕ → List ℕ
zeros n = replicate n 0

abbrev features : List ℕ
features = zeros 16

-- a part of a type whose high byte is 1, with a value of n bytes and selector 0
abbrev piece : ℕ → ℕ → List ℕ → List ℕ
piece t n x = (t ∷ 1 ∷ zeros 10) ++ ((n ∷ zeros 3) ++ x)

-- unknown; a status of two bytes; status 15; a status of two bytes again, now a copy; other features; a queue of size 100;
-- five bytes of a header
abbrev damaged : List ℕ
damaged =
    piece 9 1 (7 ∷ [])
    ++ (piece 3 2 (1 ∷ 2 ∷ [])
    ++ (piece 3 1 (15 ∷ [])
    ++ (piece 3 2 (1 ∷ 2 ∷ []) ++ (piece 0 16 (1 ∷ zeros 15) ++ (piece 4 32 (100 ∷ zeros 31) ++ (1 ∷ 1 ∷ zeros 3))))))

-- the capture of a fresh member with one queue
abbrev fresh : List ℕ
fresh = capture_of 1 (zeros 205)

-- buffers one longer than is asked, filled with nines
abbrev called : List ℕ → Salvage
called l = salvage_of 1 features l (salvage 0 (replicate 230 9) (replicate 10 9) (replicate 5 9) 9)

abbrev alike : Salvage → Salvage → Bool
alike a b =
    eqb a.written b.written and same a.list b.list and same a.kept b.kept and same a.dropped b.dropped
    and eqb a.left b.left

-- the status alone is kept
repairs : alike (called damaged)
    (salvage 229 (put 156 (15 ∷ []) fresh ++ (9 ∷ [])) (zeros 6 ++ (1 ∷ 0 ∷ 0 ∷ 9 ∷ [])) (1 ∷ 1 ∷ 1 ∷ 2 ∷ 9 ∷ []) 5)
    ≡ true
unfolding model
repairs = refl

-- a whole capture comes back
returned : alike (called fresh) (salvage 229 (fresh ++ (9 ∷ [])) (replicate 9 1 ++ (9 ∷ [])) (0 ∷ 0 ∷ 0 ∷ 0 ∷ 9 ∷ []) 0) ≡ true
unfolding model
returned = refl

-- room for one byte less: nothing is written
refused : alike (salvage_of 1 features damaged (salvage 0 (replicate 228 9) (zeros 9) (zeros 4) 9)) (salvage 0 (replicate 228 9) (zeros 9) (zeros 4) 9) ≡ true
unfolding model
refused = refl
