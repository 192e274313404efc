-- The lines with a number, one after the other, and the end: what is written, and how much room is enough. Assumes nothing.
use mathlib.Core.Path.{◌≡◌, refl, ◌∙◌}
use mathlib.Core.Bool.{Bool, true, false}
use mathlib.Core.List.{List}
use Prim.Native.Nat.{ℕ, zero, suc, ◌+◌, ◌*◌, ◌≤◌, ◌<◌, ◌^◌}
use native.Mathlib.Nat.{zero-add}
use native.Mathlib.Omega.{arith}
use lib.ListN.{length, get_or, length-append}
use Rattle.theory.specs.Bytes.{put}
use Rattle.theory.specs.Items.{items_from}
use Rattle.theory.proofs.Bytes.{put-append, length-put}
use Rattle.theory.proofs.Items.{Written, written-room, written_next, written_at}
use Rattle.decimal.specs.Decimal.{line}
use Rattle.decimal.proofs.Digits.{line-short}
use Rattle.tally.specs.Counts.{Below}
use Rattle.tally.specs.Rows.{row_count}
use Rattle.sheet.specs.Text.{name_at, end_line, number_line, figures, text_of, sheet_room}
use Rattle.sheet.proofs.Names.{name-low}

-- ---- the loop ----

module _ (counts out₀ out : List ℕ) (at i : ℕ) (w : Written (number_line counts) row_count 0 out₀ out at i) (h : i < row_count) where
  pub number-room : at + length (line (name_at i) (get_or counts i 0)) ≤ length out
  unfolding number_line
  number-room = written-room (number_line counts) row_count 0 out₀ out at i w (length (number_line counts i)) h refl

  pub number-on : (after : List ℕ) (r : ℕ) → after ≡ put at (line (name_at i) (get_or counts i 0)) out
      → r ≡ at + length (line (name_at i) (get_or counts i 0)) → Written (number_line counts) row_count 0 out₀ after r (i + 1)
  unfolding number_line
  number-on after r e f = rw (e, f) (written_next (number_line counts) row_count 0 out₀ out at i w h)

pub numbers-end : (counts out₀ out : List ℕ) (at i : ℕ) → Written (number_line counts) row_count 0 out₀ out at i → row_count ≤ i
    → at ≡ length (items_from (number_line counts) row_count 0)
numbers-end counts out₀ out at i w h = written_at (number_line counts) row_count 0 out₀ out at i w h ∙ rw zero-add

-- ---- how long they are ----

numbers-short : (counts : List ℕ) → Below (2 ^ 64) counts → (k i : ℕ) → i + k ≤ row_count → length (items_from (number_line counts) k i) ≤ 30 * k
unfolding items_from number_line
numbers-short counts v zero i h = omega arith
numbers-short counts v (suc k) i h =
    let m = numbers-short counts v k (i + 1) (omega arith) in
    let n = name-low i (omega arith) in
    let s = line-short (name_at i) (get_or counts i 0) (v.at i) in
    rw length-append (omega arith)

-- any sheet has room
pub text-short : (counts : List ℕ) → Below (2 ^ 64) counts → (whole : Bool) → length (text_of (figures counts whole)) ≤ sheet_room
unfolding text_of
text-short counts v true = rw length-append (omega (arith, numbers-short counts v row_count 0 (omega arith)))
text-short counts v false = rw length-append (omega (arith, numbers-short counts v row_count 0 (omega arith)))

module _ (counts : List ℕ) (v : Below (2 ^ 64) counts) (out : List ℕ) (h : sheet_room ≤ length out) where
  pub numbers_fit : length (items_from (number_line counts) row_count 0) ≤ length out
  numbers_fit = omega (arith, numbers-short counts v row_count 0 (omega arith))

  -- at: the place after the lines
  module _ (at : ℕ) (numbers : List ℕ) (e : at ≡ length (items_from (number_line counts) row_count 0))
      (f : numbers ≡ put 0 (items_from (number_line counts) row_count 0) out) where
    pub end-room : at + 10 ≤ length numbers
    end-room = rw (f, length-put) (omega (arith, numbers-short counts v row_count 0 (omega arith)))

    pub end-put : (whole : Bool) (after : List ℕ) → after ≡ put at (end_line whole) numbers → after ≡ put 0 (text_of (figures counts whole)) out
    unfolding text_of
    end-put whole after g = g ∙ rw (e, f, put-append, zero-add)

    pub end-next : (whole : Bool) (r : ℕ) → r ≡ at + length (end_line whole) → r ≡ length (text_of (figures counts whole))
    unfolding text_of
    end-next whole r g = g ∙ rw (e, length-append)
