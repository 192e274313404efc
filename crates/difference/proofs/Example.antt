-- A pair that meets the hypotheses of specs/Claims.antt, and refusals: a fresh capture of a member with one queue, and a later list
-- of a device status, with selector bytes that its type does not name, and an unknown optional part. Assumes nothing.
use mathlib.Core.Path.{◌≡◌, refl}
use mathlib.Core.Bool.{true}
use mathlib.Core.List.{List, [], ◌∷◌, ◌++◌}
use Prim.Native.Nat.{ℕ}
use native.Mathlib.Omega.{arith}
use lib.ListN.{replicate, take}
use Rattle.theory.specs.Logic.{when◌then◌else◌, unless◌answer◌then◌, ◌and◌, ◌or◌, indicator}
use Rattle.theory.specs.Bytes.{put, same}
use Rattle.theory.specs.Items.{items_from}
use Rattle.wire.specs.Le.{le, bytes, number}
use Rattle.inventory.specs.Inventory.{rows, row_at, present, offset_of, selector_of, is_row, seek, place_of}
use Rattle.inventory.specs.Queue.{power_below, ring_size, queue_allowed, value_allowed}
use Rattle.inventory.specs.Header.{header_of}
use Rattle.parts.specs.List.{header_at, step_at, at_most, parts_from, whole, among}
use Rattle.rules.specs.Rules.{known, known_or_skipped, length_right, size_right, features_same, every, repeated, cause_in}
use Rattle.capture.specs.Capture.{part_at, asks, part_item, parts_written, capture_of}
use Rattle.std.proofs.Common.{None}
use Rattle.difference.specs.Difference.{span_from, place_in, has_row, has_rows, verdict_of, on_verdict, lookup_of, lookup_told, made_part, made_item, made, merge_of}
use Rattle.difference.specs.Under.{lookup_under}
use Rattle.difference.specs.Claims.{Pair}

-- what computes where a proof says `unfolding model`
unfoldable pub model : Unit {0}
unfolding when◌then◌else◌ unless◌answer◌then◌ ◌and◌ ◌or◌ indicator put same items_from le bytes number rows row_at present offset_of selector_of
    is_row seek place_of power_below ring_size queue_allowed value_allowed header_of header_at step_at at_most parts_from whole among known known_or_skipped length_right size_right features_same every
    repeated cause_in part_at asks part_item parts_written span_from place_in has_row has_rows verdict_of on_verdict lookup_of lookup_told made_part made_item
    made merge_of
model = tt

abbrev zeros : ℕ → List ℕ
zeros n = replicate n 0

abbrev pub features : List ℕ
features = zeros 16

abbrev pub full : List ℕ
full = capture_of 1 (zeros 205)

-- device status 15; a part of type 0x5ff with the optional bit
abbrev pub later : List ℕ
later =
    3 ∷ 1 ∷ 0 ∷ 0 ∷ 0xff ∷ 0 ∷ 0 ∷ 0 ∷ 0 ∷ 0 ∷ 0 ∷ 0xff ∷ 1 ∷ 0 ∷ 0 ∷ 0 ∷ 15
    ∷ 0xff ∷ 5 ∷ 1 ∷ (zeros 9 ++ (2 ∷ 0 ∷ 0 ∷ 0 ∷ 8 ∷ 9 ∷ []))

pair : Pair 1 features full later
unfolding model
pair = record { few = omega arith; full_accepted = refl; later_accepted = refl; lacks_none = refl }

-- the device status is byte 16 of the later list, and the queue's notify data byte 221 of the full capture
status-found : lookup_told (lookup_of 1 features full later 0x103 0xff) ≡ (0, (1, (16, 1)))
unfolding model
status-found = refl

notify-found : lookup_told (lookup_of 1 features full later 0x105 0x10000) ≡ (0, (0, (221, 8)))
unfolding model
notify-found = refl

-- the made list differs from the full capture in the device status alone, and the rest of the buffer stays
made_bytes : same (merge_of 1 features full later (zeros 229 ++ (7 ∷ 8 ∷ []))).1.1 (put 156 (15 ∷ []) full ++ (7 ∷ 8 ∷ [])) ≡ true
unfolding model
made_bytes = refl

-- 1 to 6, each where the ones after it apply too: no such member, a full capture that is cut, a later list that is, a full capture that lacks a
-- part, a part of a second queue, and a buffer that is a byte too short
setup-bad : lookup_told (lookup_under None (take 228 full) (take 16 later) 0x105 1) ≡ (1, (0, (0, 0)))
unfolding lookup_under model
setup-bad = refl

full-bad : lookup_told (lookup_of 1 features (take 228 full) (take 16 later) 0x105 1) ≡ (2, (0, (0, 0)))
unfolding model
full-bad = refl

later-bad : lookup_told (lookup_of 1 features later (take 16 later) 0x105 1) ≡ (3, (0, (0, 0)))
unfolding model
later-bad = refl

part-lacking : lookup_told (lookup_of 1 features later later 0x105 1) ≡ (4, (0, (0, 0)))
unfolding model
part-lacking = refl

outside : lookup_told (lookup_of 1 features full later 0x105 1) ≡ (5, (0, (0, 0)))
unfolding model
outside = refl

short : merge_of 1 features full later (zeros 228) ≡ (6, (0, zeros 228))
unfolding model
short = refl
