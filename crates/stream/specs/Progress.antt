-- How far the captures of a stream are taken: numbers, and the bytes held of the item under way. Assumes nothing.
use Rattle.std.specs.Prelude.{◌≡◌, Bool, true, false, List, ◌++◌, ℕ, ◌+◌, ◌-◌, ◌*◌, ◌≤◌, ◌<◌, eqb, leb, length, get_or, take, drop, replicate}
use Rattle.theory.specs.Logic.{unless◌answer◌then◌}
use Rattle.tally.specs.Counts.{◌plus◌}
use Rattle.tally.specs.Rows.{longest, row_count}
use Rattle.stream.specs.Stream.{Captures, torn, long, length_size, most, capture_then, captures_in, is_whole}
use Rattle.sheet.specs.Text.{Figures, figures, text_of}
use Rattle.stream.specs.Totals.{totals}
use Rattle.stream.specs.declared.Item.{Item}
use Rattle.stream.specs.declared.Item.TheVariants as item
use Rattle.stream.specs.declared.Progress.{Progress}

-- the captures that were read
abbrev pub read_of : List ℕ → ℕ
read_of counts = get_or counts 0 0

-- a long capture of which n bytes are still to come
unfoldable pub long_then : ℕ → List ℕ → (List ℕ → Captures) → Captures
long_then n l rest = unless leb n (length l) answer torn then long (rest (drop n l))

-- the captures that are not counted yet, where these bytes are held and l follows
abbrev pub rest_in : Item → ℕ → ℕ → ℕ → List ℕ → List ℕ → Captures
rest_in item.Length have left more held l = captures_in more (held ++ l)
rest_in item.Capture have left more held l = capture_then (have + left) (held ++ l) (captures_in (more - 1))
rest_in item.Skipped have left more held l = long_then left l (captures_in (more - 1))
rest_in item.Stopped have left more held l = torn

-- as many of the buffer's bytes are held as the progress has
abbrev pub rest_of : Progress → List ℕ → List ℕ → Captures
rest_of p buffer l = rest_in p.item p.have p.left (most - read_of p.counts) (take p.have buffer) l

-- counts, and captures that are still to be counted
unfoldable pub with_rest : ℕ → List ℕ → List ℕ → Captures → Figures
with_rest queues features counts cs =
    record { counts = counts plus totals queues features cs; ended = is_whole cs }

-- the figures of all captures, where l follows
abbrev pub figures_from : ℕ → List ℕ → Progress → List ℕ → List ℕ → Figures
figures_from queues features p buffer l = with_rest queues features p.counts (rest_of p buffer l)

-- nothing is taken yet
abbrev pub started : Progress
started = record { item = item.Length; have = 0; left = length_size; counts = replicate row_count 0 }

-- the stream ends here: it is whole between captures
abbrev pub ended_in : Item → ℕ → Bool
ended_in item.Length have = eqb have 0
ended_in item.Capture have = false
ended_in item.Skipped have = false
ended_in item.Stopped have = false

abbrev pub ended : Progress → Bool
ended p = ended_in p.item p.have

-- the sheet of a stream that ends here
unfoldable pub finished_of : Progress → List ℕ
finished_of p = text_of (figures p.counts (ended p))

-- nothing more is taken, whatever follows
abbrev pub stopped_in : Item → Bool
stopped_in item.Length = false
stopped_in item.Capture = false
stopped_in item.Skipped = false
stopped_in item.Stopped = true

abbrev pub stopped : Progress → Bool
stopped p = stopped_in p.item

-- ---- what holds of every progress ----

-- of captures of up to 4,064 bytes, no number is more than 4,064 for each
pub record Counted (counts : List ℕ) : Type 0 where
  pub some : 0 < length counts
  pub bound : (i : ℕ) → get_or counts i 0 ≤ longest * read_of counts
  pub up_to : read_of counts ≤ most

-- an item that is held has room, and captures are taken up to the last one
abbrev pub Within : Item → ℕ → ℕ → Type 0
Within item.Length have left = have + left ≡ length_size
Within item.Capture have left = have + left ≤ longest
Within item.Skipped have left = Unit {0}
Within item.Stopped have left = Unit {0}

abbrev pub Going : Item → ℕ → Type 0
Going item.Length read = read < most
Going item.Capture read = read < most
Going item.Skipped read = read < most
Going item.Stopped read = Unit {0}

pub record Ready (p : Progress) (buffer : List ℕ) : Type 0 where
  pub room : length buffer ≡ longest
  pub more : 0 < p.left
  pub counted : Counted p.counts
  pub within : Within p.item p.have p.left
  pub going : Going p.item (read_of p.counts)

-- a chunk was taken: whatever follows, the figures are those of the chunk and what follows
pub record Took (queues : ℕ) (features : List ℕ) (p : Progress) (buffer chunk : List ℕ) (r : Progress) (after : List ℕ) : Type 0 where
  pub ready : Ready r after
  pub same : (l : List ℕ) → figures_from queues features r after l ≡ figures_from queues features p buffer (chunk ++ l)

-- so many bytes of a chunk are a run: no more than the item under way still takes
pub record Run (left rest n : ℕ) : Type 0 where
  pub some : 0 < n
  pub item : n ≤ left
  pub chunk : n ≤ rest
