-- What the writers leave in the buffer, in the form in which their needs ask it. Assumes nothing.
use mathlib.Core.Path.{◌≡◌, refl, ap, sym, ◌∙◌}
use mathlib.Core.Bool.{Bool, true, false}
use mathlib.Core.List.{List, ◌++◌}
use Prim.Native.Nat.{ℕ, ◌+◌, ◌-◌, ◌≤◌, ◌<◌}
use native.Mathlib.Nat.{add-sub_cancel_left, sub-zero}
use native.Mathlib.Omega.{arith}
use borrow.Author.Tests.{leb-true}
use lib.Dec.{leb}
use lib.ListN.{length, take, drop, length-append}
use Rattle.theory.specs.Logic.{when◌then◌else◌}
use Rattle.theory.specs.Bytes.{bytes_at, put}
use Rattle.theory.proofs.Bytes.{put-comm, put-append, bytes_at-put-as, length-bytes_at}
use Rattle.theory.proofs.Items.{Written, written-room, written_next, written-skip}
use Rattle.inventory.specs.declared.Row.{Row}
use Rattle.inventory.specs.Inventory.{row_at, row_count, present, values_size}
use Rattle.inventory.specs.Header.{header_of, header_size}
use Rattle.inventory.proofs.Rules.{table, every-row, row_within, offset-own, length-header}
use Rattle.capture.specs.Capture.{Selection, header_item, part_at, asks, part_item}
use Rattle.capture.specs.Runs.{largest_value, Wrote}
use Rattle.capture.proofs.Sizes.{item_size, size-most}

-- ---- one part ----

-- the value in the array that it goes through, and the value, then the header
module _ (r : Row) (v : List ℕ) (h : r.offset + r.size ≤ length v) (value z : List ℕ) (e : value ≡ put 0 (take (r.offset + r.size - r.offset) (drop r.offset v)) z) where
  value-is : value ≡ put 0 (bytes_at r.offset r.size v) z
  value-is = e ∙ rw add-sub_cancel_left

  value-back : r.size ≤ length z → take (r.size - 0) (drop 0 value) ≡ bytes_at r.offset r.size v
  value-back l = rw (value-is, sub-zero) (bytes_at-put-as 0 r.size (bytes_at r.offset r.size v) z (length-bytes_at r.offset r.size v h) (omega arith))

  pub wrote-part : (at : ℕ) (out out₁ out₂ : List ℕ) → r.size ≤ length z
      → out₁ ≡ put (at + header_size) (take (r.size - 0) (drop 0 value)) out → out₂ ≡ put at (header_of r) out₁
      → Wrote (header_of r ++ bytes_at r.offset r.size v) at out out₂ (at + header_size + r.size)
  wrote-part at out out₁ out₂ l p q =
      let k = length-header r in
      record {
        buffer =
            q ∙ rw (p, value-back l, ← k)
            (put-comm at (header_of r) _ (bytes_at r.offset r.size v) out (omega arith) ∙ sym (put-append at (header_of r) (bytes_at r.offset r.size v) out));
        place = rw (length-append, k, length-bytes_at r.offset r.size v h) (omega arith);
      }

-- ---- a turn of a loop over the table ----

pub row_inside : (i : ℕ) (v : List ℕ) → i < row_count → length v ≡ values_size → (row_at i).offset + (row_at i).size ≤ length v
row_inside i v h e = omega (arith, offset-own i h, row_within i h)

pub row_small : (i : ℕ) → i < row_count → (row_at i).size ≤ largest_value
unfolding table
row_small i h = leb-true _ _ (every-row (λ j r. leb r.size largest_value) refl i h)

-- what is written is the next item
pub wrote-next : (item : ℕ → List ℕ) (n b : ℕ) (out₀ out out' x : List ℕ) (at next i : ℕ) → Written item n b out₀ out at i → i < n
    → item i ≡ x → Wrote x at out out' next → Written item n b out₀ out' next (i + 1)
wrote-next item n b out₀ out out' x at next i w h e d = rw (d.buffer, d.place, ← e) (written_next item n b out₀ out at i w h)

module _ (q : ℕ) (out₀ out : List ℕ) (at i : ℕ) (w : Written (header_item q) row_count 0 out₀ out at i) (h : i < row_count)
    (b : Bool) (told : b ≡ present q (row_at i)) where
  header-item : b ≡ true → header_item q i ≡ header_of (row_at i)
  unfolding header_item when◌then◌else◌
  header-item y = rw (← told, y)

  pub headers-room : b ≡ true → at + header_size ≤ length out
  headers-room y = written-room _ _ _ _ _ _ _ w header_size h (ap length (header-item y) ∙ length-header (row_at i))

  pub headers-on : (out' : List ℕ) → b ≡ true → out' ≡ put at (header_of (row_at i)) out
      → Written (header_item q) row_count 0 out₀ out' (at + header_size) (i + 1)
  headers-on out' y e =
      wrote-next _ _ _ _ _ out' _ _ _ _ w h (header-item y) (record { buffer = e; place = rw length-header })

  pub headers-skip : b ≡ false → Written (header_item q) row_count 0 out₀ out at (i + 1)
  unfolding header_item when◌then◌else◌
  headers-skip n = written-skip _ _ _ _ _ _ _ w h (rw (← told, n))

module _ (selection : Selection) (q : ℕ) (list v out₀ out : List ℕ) (at i : ℕ)
    (w : Written (part_item selection q list v) row_count 0 out₀ out at i) (h : i < row_count)
    (b : Bool) (told : b ≡ asks selection q list (row_at i)) where
  part-item : b ≡ true → part_item selection q list v i ≡ header_of (row_at i) ++ bytes_at (row_at i).offset (row_at i).size v
  unfolding part_item part_at when◌then◌else◌
  part-item y = rw (← told, y, offset-own i h)

  pub parts-room : length v ≡ values_size → b ≡ true → at + (header_size + (row_at i).size) ≤ length out
  parts-room e y =
      let n : length (header_of (row_at i) ++ bytes_at (row_at i).offset (row_at i).size v) ≡ header_size + (row_at i).size =
      rw (length-append, length-header, length-bytes_at _ _ v (row_inside i v h e)) in
      written-room _ _ _ _ _ _ _ w _ h (ap length (part-item y) ∙ n)

  pub parts-on : (out' : List ℕ) (next : ℕ) → b ≡ true
      → Wrote (header_of (row_at i) ++ bytes_at (row_at i).offset (row_at i).size v) at out out' next
      → Written (part_item selection q list v) row_count 0 out₀ out' next (i + 1)
  parts-on out' next y d = wrote-next _ _ _ _ _ out' _ _ next _ w h (part-item y) d

  pub parts-skip : b ≡ false → Written (part_item selection q list v) row_count 0 out₀ out at (i + 1)
  unfolding part_item when◌then◌else◌
  parts-skip n = written-skip _ _ _ _ _ _ _ w h (rw (← told, n))

-- the bytes that a row adds
pub row-most : (selection : Selection) (q x : ℕ) (list : List ℕ) (i : ℕ) → x ≡ item_size selection q list i → i < row_count → x ≤ 272
row-most selection q x list i e h = rw e (size-most selection q list i h)
