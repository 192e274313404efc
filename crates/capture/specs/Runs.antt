-- What the private writers of parts ask and leave. No public contract cites this. Assumes nothing.
use Rattle.std.specs.Prelude.{◌≡◌, List, ℕ, ◌+◌, ◌*◌, ◌≤◌, ◌<◌, length}
use Rattle.theory.specs.Bytes.{put}
use Rattle.theory.specs.Items.{items_from}
use Rattle.inventory.specs.declared.Row.{Row}
use Rattle.inventory.specs.Inventory.{row_at, row_count, values_size}
use Rattle.inventory.specs.Header.{header_size}
use Rattle.capture.specs.Capture.{part_at}

-- the bytes of the largest value
abbrev pub largest_value : ℕ
largest_value = 32

-- the j-th row after r, of the same type and size, where selectors are a step apart and each value starts where the last one ends
abbrev pub run_row : Row → ℕ → ℕ → Row
run_row r step j = record { part_type = r.part_type; selector = r.selector + step * j; size = r.size; offset = r.offset + r.size * j }

-- so many rows of the table from the first on are such rows
pub record RowsAlike (first count : ℕ) (r : Row) (step : ℕ) : Type 0 where
  pub there : first + count ≤ row_count
  pub rows : (j : ℕ) → j < count → row_at (first + j) ≡ run_row r step j
  pub low : (r.selector ≤ 256) × (step ≤ 256)

abbrev pub run_of : List ℕ → ℕ → ℕ → List ℕ
run_of values first count = items_from (λ j. part_at values (first + j)) count 0

-- there is room for their parts
pub record RunFits (values : List ℕ) (first count : ℕ) (r : Row) (step at : ℕ) (out : List ℕ) : Type 0 where
  pub alike : RowsAlike first count r step
  pub long : length values ≡ values_size
  pub room : at + count * (header_size + r.size) ≤ length out

-- an item written at a place of a buffer, and the place after it
pub record Wrote (item : List ℕ) (at : ℕ) (before after : List ℕ) (next : ℕ) : Type 0 where
  pub buffer : after ≡ put at item before
  pub place : next ≡ at + length item
