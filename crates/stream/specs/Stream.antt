-- A stream of captures, behind its setup: 02, request 11. Assumes nothing.
use Rattle.std.specs.Prelude.{Bool, true, false, List, ℕ, zero, suc, ltb, leb, length, take, drop}
use Rattle.theory.specs.Logic.{when◌then◌else◌, unless◌answer◌then◌}
use Rattle.wire.specs.Le.{number}
use Rattle.tally.specs.Rows.{longest}

-- captures one after the other, and how the stream ends
pub data Captures : Type 0 where
  whole : Captures
  torn : Captures
  capture : List ℕ → Captures → Captures
  long : Captures → Captures

-- each stands behind its length, in four bytes
abbrev pub length_size : ℕ
length_size = 4

-- as many are taken
abbrev pub most : ℕ
most = 4294967295

-- a capture of n bytes, then the rest; one over 4,064 bytes is not looked into. It is torn where the stream ends in it
unfoldable pub capture_then : ℕ → List ℕ → (List ℕ → Captures) → Captures
capture_then n l rest =
    unless leb n (length l) answer torn then
    when leb n longest then capture (take n l) (rest (drop n l)) else long (rest (drop n l))

-- a stream of which n captures at most are taken: it is torn after so many, whatever follows, also nothing
unfoldable pub captures_in : ℕ → List ℕ → Captures
captures_in zero l = torn
captures_in (suc n) l =
    unless ltb 0 (length l) answer whole then
    unless leb length_size (length l) answer torn then
    capture_then (number 0 length_size l) (drop length_size l) (captures_in n)

unfoldable pub is_whole : Captures → Bool
is_whole whole = true
is_whole torn = false
is_whole (capture c cs) = is_whole cs
is_whole (long cs) = is_whole cs
