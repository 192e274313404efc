-- What the writers of the made list leave in the buffer, in the form in which their needs ask it. Assumes nothing.
use mathlib.Core.Path.{◌≡◌, ap, sym, ◌∙◌}
use mathlib.Core.Bool.{Bool, true, false}
use mathlib.Core.List.{List}
use Prim.Native.Nat.{ℕ, ◌+◌, ◌^◌, ◌≤◌, ◌<◌}
use native.Mathlib.Omega.{arith}
use mir.Syntax.{w64}
use mir.Val.{Fits}
use denote.Ref.{Bor}
use lib.ListN.{length, length-append}
use Rattle.theory.specs.Logic.{when◌then◌else◌}
use Rattle.theory.specs.Bytes.{put}
use Rattle.theory.proofs.Bytes.{length-put, put-append}
use Rattle.theory.proofs.Items.{Written, written-room, written-skip}
use Rattle.inventory.specs.declared.Row.{Row}
use Rattle.inventory.specs.Inventory.{row_at, row_count, present}
use Rattle.inventory.specs.Header.{header_of, header_size}
use Rattle.inventory.proofs.Rules.{length-header}
use Rattle.capture.specs.Runs.{Wrote}
use Rattle.capture.proofs.Writes.{wrote-next}
use Rattle.difference.specs.Difference.{Lookup, place_in, value_at, made_part, made_item}
use Rattle.difference.specs.Handed.{Handed}
use Rattle.difference.proofs.Handed.{handed-value}

-- ---- one part ----

part_length : (full later : List ℕ) (r : Row)
    → length (made_part full later r) ≡ header_size + length (value_at full later (place_in full later r.part_type r.selector))
unfolding made_part
part_length full later r = rw (length-append, length-header)

pub header-room : (full later out : List ℕ) (at : ℕ) (r : Row) → at + length (made_part full later r) ≤ length out
    → at + header_size ≤ length out
header-room full later out at r h = omega (arith, part_length full later r)

-- x is the value that is handed back for the lookup l; the header is written, and the value is to be
module _ (full later x : Bor (List ℕ)) (l : Lookup) (handed : Handed full later l x) (r : Row) (at : ℕ) (out out₁ : List ℕ)
    (el : l ≡ place_in full.now later.now r.part_type r.selector) (h : at + length (made_part full.now later.now r) ≤ length out)
    (e₁ : out₁ ≡ put at (header_of r) out) where
  value-is : x.now ≡ value_at full.now later.now (place_in full.now later.now r.part_type r.selector)
  value-is = handed-value full later x l handed ∙ ap (value_at full.now later.now) el

  pub value_room : at + header_size + length x.now ≤ length out₁
  value_room =
      rw (e₁, length-put) (omega (arith, part_length full.now later.now r, ap length value-is))

  pub value-fits : length out < 2 ^ 64 → Fits w64 (at + header_size + length x.now)
  value-fits k = record { fits = omega (arith, value_room, ap length e₁, length-put at (header_of r) out) }

  pub part-written : (out₂ : List ℕ) → out₂ ≡ put (at + header_size) x.now out₁
      → Wrote (made_part full.now later.now r) at out out₂ (at + header_size + length x.now)
  unfolding made_part
  part-written out₂ e₂ =
      let k = length-header r in
      record {
        buffer = e₂ ∙ rw (e₁, value-is, ← k) (sym (put-append at (header_of r) _ out));
        place = omega (arith, part_length full.now later.now r, ap length value-is);
      }

-- ---- a turn of the loop ----

module _ (q : ℕ) (full later out₀ out : List ℕ) (at i : ℕ) (w : Written (made_item q full later) row_count 0 out₀ out at i)
    (h : i < row_count) (b : Bool) (told : b ≡ present q (row_at i)) where
  item-is : b ≡ true → made_item q full later i ≡ made_part full later (row_at i)
  unfolding made_item when◌then◌else◌
  item-is y = rw (← told, y)

  pub made-room : b ≡ true → at + length (made_part full later (row_at i)) ≤ length out
  made-room y = written-room _ _ _ _ _ _ _ w _ h (ap length (item-is y))

  pub made-on : (out' : List ℕ) (next : ℕ) → b ≡ true → Wrote (made_part full later (row_at i)) at out out' next
      → Written (made_item q full later) row_count 0 out₀ out' next (i + 1)
  made-on out' next y d = wrote-next _ _ _ _ _ out' _ _ next _ w h (item-is y) d

  pub made-skip : b ≡ false → Written (made_item q full later) row_count 0 out₀ out at (i + 1)
  unfolding made_item when◌then◌else◌
  made-skip n = written-skip _ _ _ _ _ _ _ w h (rw (← told, n))
