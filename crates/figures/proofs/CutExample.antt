-- Chunks that are fed, which the claim that it does not matter how a stream is cut speaks of: a stream that is cut inside its
-- setup, a length and a capture. Assumes nothing.
use mathlib.Core.Path.{◌≡◌, refl, ◌∙◌}
use mathlib.Core.List.{List, [], ◌∷◌, ◌++◌}
use Prim.Native.Nat.{ℕ}
use native.Mathlib.Omega.{arith}
use lib.ListN.{length, replicate}
use Rattle.theory.specs.Bytes.{put}
use Rattle.wire.specs.Le.{bytes}
use Rattle.setups.specs.declared.Setup.{Setup}
use Rattle.setups.specs.Setup.{setup_with}
use Rattle.setups.specs.Examples.{bench, zeros}
use Rattle.tally.specs.Counts.{◌plus◌}
use Rattle.tally.specs.Rows.{longest, row_count}
use Rattle.stream.specs.declared.Progress.{Progress}
use Rattle.stream.specs.declared.Item.TheVariants as item
use Rattle.stream.specs.Progress as captures
use Rattle.stream.specs.Steps.{progress, awaiting, opened}
use Rattle.stream.proofs.Ends.{started-ready}
use Rattle.stream.proofs.Takes.{length_more, length-done, capture-more, capture-done}
use Rattle.figures.specs.declared.State.{State}
use Rattle.figures.specs.Sheet.{sheet_of}
use Rattle.figures.specs.State.{waiting, counting, finished_of, Took}
use Rattle.figures.specs.Encoding.{encoded}
use Rattle.figures.specs.Examples.{part_bytes, status}
use Rattle.figures.specs.Claims.{Fed, none, next, joined}
use Rattle.figures.proofs.Taking.{setup-more, setup-whole, open-taken, captures-taken}
use Rattle.figures.proofs.HoweverCut.{however-cut}
use Rattle.figures.proofs.SheetTexts.{every_model}
use Rattle.figures.proofs.Example.{buffer}

-- five bytes of the bench's setup
abbrev chunk1 : List ℕ
chunk1 = 0x11 ∷ 0x04 ∷ 0x40 ∷ 0 ∷ 0 ∷ []

-- the others, and two bytes of the length 17
abbrev length1 : List ℕ
length1 = 17 ∷ 0 ∷ []

abbrev setup2 : List ℕ
setup2 = replicate 14 0

abbrev chunk2 : List ℕ
chunk2 = setup2 ++ length1

-- the other two, and nine bytes of a capture: the status
abbrev length2 : List ℕ
length2 = 0 ∷ 0 ∷ []

abbrev capture1 : List ℕ
capture1 = 0x03 ∷ 0x01 ∷ replicate 7 0

abbrev chunk3 : List ℕ
chunk3 = length2 ++ capture1

-- the other eight
abbrev chunk4 : List ℕ
chunk4 = 0 ∷ 0 ∷ 0 ∷ 1 ∷ 0 ∷ 0 ∷ 0 ∷ 15 ∷ []

took-1 : Took (waiting 0) buffer chunk1 (waiting 5) (put 0 chunk1 buffer)
took-1 =
    setup-more 0 buffer chunk1 (however-cut.starts buffer refl) (put 0 chunk1 buffer) (waiting 5) refl refl
    (omega arith)

abbrev setup : Setup
setup = setup_with 2 (1 ∷ 1 ∷ []) 1 1 zeros

abbrev none-counted : List ℕ
none-counted = replicate row_count 0

abbrev taking : Progress → State
taking p = counting 1 zeros p

-- what is held: the setup, half of the length, the length, half of the capture, the capture
abbrev buffer2 : List ℕ
buffer2 = put 5 setup2 (put 0 chunk1 buffer)

abbrev buffer3 : List ℕ
buffer3 = put 0 length1 buffer2

abbrev buffer4 : List ℕ
buffer4 = put 2 length2 buffer3

abbrev buffer5 : List ℕ
buffer5 = put 0 capture1 buffer4

abbrev buffer6 : List ℕ
buffer6 = put 9 chunk4 buffer5

-- a length under way, its capture, that under way, and all counted
abbrev p3 : Progress
p3 = progress item.Length 2 2 none-counted

abbrev p4 : Progress
p4 = progress item.Capture 0 17 none-counted

abbrev p5 : Progress
p5 = progress item.Capture 9 8 none-counted

abbrev p6 : Progress
p6 = progress item.Length 0 4 (1 ∷ 1 ∷ 0 ∷ 0 ∷ 0 ∷ 0 ∷ 0 ∷ 0 ∷ 0 ∷ 0 ∷ 0 ∷ 0 ∷ 1 ∷ 0 ∷ 0 ∷ 17 ∷ [])

half_length : length buffer2 ≡ longest → captures.Took 1 zeros captures.started buffer2 length1 p3 buffer3
half_length h =
    length_more captures.started buffer2 length1 (started-ready buffer2 h) refl
    (record { some = omega arith; item = omega arith; chunk = omega arith }) 1 zeros buffer3 refl (omega arith)

took-2 : Took (waiting 5) (put 0 chunk1 buffer) chunk2 (taking p3) buffer3
unfolding every_model
took-2 =
    setup-whole 5 (put 0 chunk1 buffer) chunk2 took-1.ready (omega arith) _ _ refl refl buffer2 refl (taking p3) buffer3
    (open-taken buffer2 length1 refl setup captures.started (taking p3) buffer3 refl refl
    (captures-taken 1 zeros captures.started buffer2 length1 p3 buffer3 (half_length refl)))

whole_length : captures.Took 1 zeros p3 buffer3 length2 p4 buffer4
unfolding every_model opened
whole_length =
    length-done p3 buffer3 length2 took-2.ready.standing refl
    (record { some = omega arith; item = omega arith; chunk = omega arith }) 1 zeros buffer4 refl p4 refl (omega arith)

half-capture : captures.Took 1 zeros p4 buffer4 capture1 p5 buffer5
half-capture =
    capture-more p4 buffer4 capture1 whole_length.ready refl
    (record { some = omega arith; item = omega arith; chunk = omega arith }) 1 zeros buffer5 refl (omega arith)

took-3 : Took (taking p3) buffer3 chunk3 (taking p5) buffer5
took-3 = captures-taken 1 zeros p3 buffer3 chunk3 p5 buffer5 (record {
  ready = half-capture.ready;
  same = λ l. half-capture.same l ∙ whole_length.same (capture1 ++ l);
})

whole-capture : captures.Took 1 zeros p5 buffer5 chunk4 p6 buffer6
unfolding every_model awaiting ◌plus◌
whole-capture =
    capture-done p5 buffer5 chunk4 half-capture.ready refl
    (record { some = omega arith; item = omega arith; chunk = omega arith }) 1 zeros buffer6 refl p6 refl (omega arith)

took-4 : Took (taking p5) buffer5 chunk4 (taking p6) buffer6
took-4 = captures-taken 1 zeros p5 buffer5 chunk4 p6 buffer6 whole-capture

fed-cut : Fed (waiting 0) buffer (chunk1 ∷ chunk2 ∷ chunk3 ∷ chunk4 ∷ []) (taking p6) buffer6
fed-cut = next took-1 (next took-2 (next took-3 (next took-4 none)))

-- so that what is written is the sheet of the setup and a capture of the status
cut-sheet : finished_of (taking p6) ≡ sheet_of (bench ++ encoded (status ∷ []))
unfolding encoded bytes joined status part_bytes
cut-sheet = however-cut.ends buffer _ _ _ refl fed-cut
