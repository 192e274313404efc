-- WHAT IS CLAIMED of a stream and its sheet: 02, request 11. ../proofs/Example.antt has chunks that meet the hypotheses. Assumes
-- nothing.
use Rattle.std.specs.Prelude.{◌≡◌, IsErr, true, List, [], ◌∷◌, ◌++◌, ℕ, ◌+◌, length, get_or, take, drop, replicate}
use Rattle.setups.specs.Reading.{read_version1}
use Rattle.setups.specs.Examples.{bench}
use Rattle.tally.specs.Rows.{longest, row_count}
use Rattle.sheet.specs.Text.{figures, text_of}
use Rattle.stream.specs.Stream.{Captures}
use Rattle.stream.specs.Totals.{totals}
use Rattle.figures.specs.Sheet.{setup_size, refused_text, sheet_of}
use Rattle.figures.specs.State.{waiting, finished_of, over, Ready, Took}
use Rattle.figures.specs.declared.State.{State}

-- ---- however a stream is cut into chunks, feeding them and finishing gives the sheet of the whole ----

-- chunks that `feed` took one after the other, from the state s with the buffer b to r with after
pub data Fed : State → List ℕ → List (List ℕ) → State → List ℕ → Type 0 where
  none : {s : State} {b : List ℕ} → Fed s b [] s b
  next : {s t r : State} {b between after chunk : List ℕ} {chunks : List (List ℕ)}
      → Took s b chunk t between
      → Fed t between chunks r after
      → Fed s b (chunk ∷ chunks) r after

unfoldable pub joined : List (List ℕ) → List ℕ
joined [] = []
joined (c ∷ cs) = c ++ joined cs

pub record HoweverCut : Type 0 where
  -- the start can be fed, with any buffer of 4,064 bytes
  pub starts : (buffer : List ℕ) → length buffer ≡ longest → Ready (waiting 0) buffer
  -- what `finish` writes is the sheet of all the chunks, from the first byte of the setup on
  pub ends : (buffer : List ℕ) (chunks : List (List ℕ)) (r : State) (after : List ℕ)
      → length buffer ≡ longest → Fed (waiting 0) buffer chunks r after
      → finished_of r ≡ sheet_of (joined chunks)
  -- and where `is_over` says so, whatever follows
  pub stops : (buffer : List ℕ) (chunks : List (List ℕ)) (r : State) (after l : List ℕ)
      → length buffer ≡ longest → Fed (waiting 0) buffer chunks r after → over r ≡ true
      → finished_of r ≡ sheet_of (joined chunks ++ l)

-- ---- the lines add up ----

unfoldable pub sum : List ℕ → ℕ
sum [] = 0
sum (n ∷ ns) = n + sum ns

-- each capture that is read is accepted or has one cause: the first number is the sum of the eight that follow it
abbrev pub AddsUp : Type 0
AddsUp = (queues : ℕ) (features : List ℕ) (cs : Captures)
    → get_or (totals queues features cs) 0 0 ≡ sum (take 8 (drop 1 (totals queues features cs)))

-- ---- the two sheets that 02 gives ----

pub record Sheets : Type 0 where
  -- the setup of 01's bench and nothing after it: all 16 numbers are 0, and the stream is whole
  pub bare : sheet_of bench ≡ text_of (figures (replicate row_count 0) true)
  -- a setup that the reader of version 1 does not take: `setup refused` alone, whatever follows. Example: version-2 in
  -- ../proofs/Sheets.antt
  pub refused : (l : List ℕ) → IsErr (read_version1 (take setup_size l)) → sheet_of l ≡ refused_text
