-- How far a stream is taken. Assumes nothing.
use Rattle.std.specs.Prelude.{◌≡◌, Bool, true, false, List, ◌++◌, ℕ, ◌<◌, length, take}
use Rattle.tally.specs.Rows.{longest}
use Rattle.sheet.specs.Text.{text_of}
use Rattle.stream.specs.declared.Progress.{Progress}
use Rattle.stream.specs.Progress.{figures_from, stopped, Counted}
use Rattle.stream.specs.Progress as captures
use Rattle.figures.specs.Sheet.{setup_size, refused_text, sheet_of}
use Rattle.figures.specs.declared.State.{State}
use Rattle.figures.specs.declared.State.TheVariants as state

-- so many bytes of the setup are held
abbrev pub waiting : ℕ → State
waiting have = state.Setup have

abbrev pub refused : State
refused = state.Refused

-- captures are taken, under a setup with so many queues and these features
abbrev pub counting : ℕ → List ℕ → Progress → State
counting queues features p = state.Captures queues features p

-- the sheet of the whole stream, where as many of the buffer's bytes are held as the state has, and l follows
abbrev pub sheet_from : State → List ℕ → List ℕ → List ℕ
sheet_from (state.Setup have) buffer l = sheet_of (take have buffer ++ l)
sheet_from (state.Captures queues features p) buffer l = text_of (figures_from queues features p buffer l)
sheet_from state.Refused buffer l = refused_text

-- the sheet of a stream that ends here
abbrev pub finished_of : State → List ℕ
finished_of (state.Setup have) = refused_text
finished_of (state.Captures queues features p) = captures.finished_of p
finished_of state.Refused = refused_text

-- nothing more is taken, whatever follows
abbrev pub over : State → Bool
over (state.Setup have) = false
over (state.Captures queues features p) = stopped p
over state.Refused = true

-- ---- what holds of every state ----

-- the numbers of the captures, where there are any
abbrev pub CountedIn : State → Type 0
CountedIn (state.Setup have) = Unit {0}
CountedIn (state.Captures queues features p) = Counted p.counts
CountedIn state.Refused = Unit {0}

abbrev pub Standing : State → List ℕ → Type 0
Standing (state.Setup have) buffer = have < setup_size
Standing (state.Captures queues features p) buffer = captures.Ready p buffer
Standing state.Refused buffer = Unit {0}

pub record Ready (s : State) (buffer : List ℕ) : Type 0 where
  pub room : length buffer ≡ longest
  pub counted : CountedIn s
  pub standing : Standing s buffer

-- a chunk was taken: whatever follows, the sheet is that of the chunk and what follows
pub record Took (s : State) (buffer chunk : List ℕ) (r : State) (after : List ℕ) : Type 0 where
  pub ready : Ready r after
  pub same : (l : List ℕ) → sheet_from r after l ≡ sheet_from s buffer (chunk ++ l)

-- the setup was taken, from the front of the buffer, and what follows it in a chunk
pub record TookBehind (buffer rest : List ℕ) (r : State) (after : List ℕ) : Type 0 where
  pub ready : Ready r after
  pub same : (l : List ℕ) → sheet_from r after l ≡ sheet_of (take setup_size buffer ++ (rest ++ l))
