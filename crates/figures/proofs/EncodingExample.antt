-- Streams that meet the hypotheses of the claims of specs/Encoding.antt: one for each ending. Assumes nothing.
use mathlib.Core.Path.{◌≡◌, refl, ap, ◌∙◌}
use mathlib.Core.Bool.{true, false}
use mathlib.Core.List.{List, [], ◌∷◌, ◌++◌}
use Rattle.std.proofs.Common.{Ok}
use Prim.Native.Nat.{ℕ, zero, suc, ◌+◌, ◌<◌}
use native.Mathlib.Omega.{arith}
use lib.ListN.{length, get_or, replicate, length-append, length-replicate}
use Rattle.theory.proofs.Lists.{get_or-same}
use Rattle.wire.specs.Le.{le, bytes, number}
use Rattle.wire.proofs.Le.{length-bytes}
use Rattle.setups.specs.declared.Setup.{Setup}
use Rattle.setups.specs.Setup.{setup_with}
use Rattle.setups.specs.Reading.{read_version1}
use Rattle.setups.specs.Examples.{bench, zeros}
use Rattle.figures.specs.Encoding.{encoded, Encodable, Left, nothing, in_length, in_capture, Ending, fewer, as_many, Whole}
use Rattle.figures.specs.Examples.{part_bytes, status}
use Rattle.figures.proofs.Sheets.{model}

abbrev setup : Setup
setup = setup_with 2 (1 ∷ 1 ∷ []) 1 1 zeros

read-bench : read_version1 bench ≡ Ok setup
unfolding model
read-bench = refl

-- ---- one capture: nothing follows, or two bytes of a length, or a length of 17 and one byte ----

one-fits : Encodable (status ∷ [])
unfolding status part_bytes bytes
one-fits = record { at = fits }
  where
    fits : (i : ℕ) → length (get_or (status ∷ []) i []) < 4294967296
    fits zero = omega arith
    fits (suc i) = omega arith

one-few : length (status ∷ []) < 4294967295
one-few = omega arith

ends-between : Ending 4294967295 (status ∷ []) [] true
ends-between = fewer one-few nothing

two_bytes : Left (17 ∷ 0 ∷ []) false
two_bytes = in_length {rest = 17 ∷ 0 ∷ []} (omega arith) (omega arith)

ends-in-length : Ending 4294967295 (status ∷ []) (17 ∷ 0 ∷ []) false
ends-in-length = fewer one-few two_bytes

five-bytes : Left (17 ∷ 0 ∷ 0 ∷ 0 ∷ 3 ∷ []) false
unfolding number le
five-bytes = in_capture {rest = 17 ∷ 0 ∷ 0 ∷ 0 ∷ 3 ∷ []} (omega arith) (omega arith)

ends-in-capture : Ending 4294967295 (status ∷ []) (17 ∷ 0 ∷ 0 ∷ 0 ∷ 3 ∷ []) false
ends-in-capture = fewer one-few five-bytes

-- one byte is no stream that is whole
not-joined : (cs : List (List ℕ)) → ◌≡◌ {A = ℕ} 1 (length (encoded cs)) → ⊥
unfolding encoded
not-joined [] e = omega arith
not-joined (c ∷ cs) e =
    let n : length (bytes 4 (length c) ++ (c ++ encoded cs)) ≡ 4 + length (c ++ encoded cs) =
    length-append (bytes 4 (length c)) (c ++ encoded cs) ∙ rw length-bytes in
    omega arith

not-whole : Whole (17 ∷ []) → ⊥
not-whole w = not-joined w.captures (ap length w.joined)

-- ---- the most captures, each empty ----

unfoldable empties : ℕ → List (List ℕ)
empties n = replicate n []

length-empties : (n : ℕ) → length (empties n) ≡ n
unfolding empties
length-empties n = length-replicate n []

empties-fit : (n : ℕ) → Encodable (empties n)
unfolding empties
empties-fit n = record { at = λ i. rw (get_or-same {A = List ℕ} n i []) (omega arith) }

still-whole : (n : ℕ) → Ending (suc n) (empties n) [] true
still-whole n = let h : length (empties n) < suc n = omega (arith, length-empties n) in fewer h nothing

torn-after : (n : ℕ) (rest : List ℕ) → Ending n (empties n) rest false
torn-after n rest = as_many (length-empties n)

last-whole : Ending 4294967295 (empties 4294967294) [] true
last-whole = still-whole 4294967294

first-torn : Ending 4294967295 (empties 4294967295) [] false
first-torn = torn-after 4294967295 []
