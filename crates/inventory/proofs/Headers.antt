-- The header of a row's part, as the code makes it and as it is read back. Assumes nothing.
use mathlib.Core.Path.{◌≡◌, refl, ap, sym, ◌∙◌}
use mathlib.Core.Bool.{Bool, true, false}
use mathlib.Core.List.{List, [], ◌∷◌, ◌++◌, append_assoc}
use Prim.Native.Nat.{ℕ, ◌+◌, ◌*◌, ◌≤◌, ◌<◌, ◌^◌}
use native.Mathlib.Omega.{arith}
use mir.Val.{bool_byte}
use lib.Dec.{eqb}
use lib.ListN.{get_or}
use Rattle.theory.specs.Logic.{indicator}
use Rattle.theory.specs.Bytes.{put}
use Rattle.theory.proofs.Tests.{bool-byte, indicator-le}
use Rattle.theory.proofs.Bytes.{put-append, put-comm}
use Rattle.wire.specs.Le.{bytes, number}
use Rattle.wire.proofs.Le.{le_bytes, bytes-append}
use Rattle.inventory.specs.declared.Row.{Row}
use Rattle.inventory.specs.Inventory.{row_at, row_count, device_features}
use Rattle.inventory.specs.Header.{flags_at, selector_at, length_at, header_of, flags_of}
use Rattle.inventory.proofs.Rules.{type-below, selector-below, size_below}

-- ---- made of two words ----

pub flags-low : (b : Bool) → bool_byte b ≤ 1
flags-low b = rw (bool-byte b) (indicator-le b)

flags-two : (b : Bool) → bytes 2 (indicator b) ≡ indicator b ∷ 0 ∷ []
unfolding bytes indicator
flags-two true = refl
flags-two false = refl

module _ (r : Row) (h : r.part_type < 2 ^ 16) (k : r.selector < 2 ^ 32) where
  abbrev flags : ℕ
  flags = flags_of r

  first_word : bytes 8 (r.part_type + 2 ^ 16 * (flags + 2 ^ 16 * r.selector)) ≡ bytes 2 r.part_type ++ (flags ∷ 0 ∷ bytes 4 r.selector)
  first_word =
      bytes-append 2 6 r.part_type (flags + 2 ^ 16 * r.selector) h
      ∙ ap (bytes 2 r.part_type ++◌) (bytes-append 2 4 flags r.selector (omega (arith, indicator-le (eqb r.part_type device_features))) ∙ rw (flags-two (eqb r.part_type device_features)))

  second_word : bytes 8 (2 ^ 32 * r.size) ≡ bytes 4 0 ++ bytes 4 r.size
  second_word = ap (bytes 8) (omega arith) ∙ bytes-append 4 4 0 r.size (omega arith)

  selector-wide : bytes 8 r.selector ≡ bytes 4 r.selector ++ bytes 4 0
  selector-wide = ap (bytes 8) (omega arith) ∙ bytes-append 4 4 r.selector 0 (omega arith)

  header_is : bytes 8 (r.part_type + 2 ^ 16 * (flags + 2 ^ 16 * r.selector)) ++ bytes 8 (2 ^ 32 * r.size) ≡ header_of r
  unfolding header_of
  header_is = rw (first_word, second_word, selector-wide) (simp append_assoc)

  pub header-put : (at : ℕ) (out out₁ out₂ : List ℕ) (w : ℕ) → w ≡ r.part_type + 2 ^ 16 * (flags + 2 ^ 16 * r.selector)
      → out₁ ≡ put (at + 8) (bytes 8 (2 ^ 32 * r.size)) out → out₂ ≡ put at (bytes 8 w) out₁ → out₂ ≡ put at (header_of r) out
  unfolding bytes
  header-put at out out₁ out₂ w e p q =
      let x = bytes 8 (r.part_type + 2 ^ 16 * (flags + 2 ^ 16 * r.selector)) in
      let y = bytes 8 (2 ^ 32 * r.size) in
      q ∙ rw (p, e, ← header_is) (put-comm at x (at + 8) y out (omega arith) ∙ sym (put-append at x y out))

-- ---- read back from the front of a list ----

module _ (i : ℕ) (h : i < row_count) (rest : List ℕ) where
  pub read-type : number 0 2 (header_of (row_at i) ++ rest) ≡ (row_at i).part_type
  unfolding header_of bytes number
  read-type = le_bytes 2 (row_at i).part_type (type-below i h)

  pub read_flags : get_or (header_of (row_at i) ++ rest) flags_at 0 ≡ flags_of (row_at i)
  unfolding header_of bytes
  read_flags = refl

  pub read-selector : number selector_at 8 (header_of (row_at i) ++ rest) ≡ (row_at i).selector
  unfolding header_of bytes number
  read-selector = le_bytes 8 (row_at i).selector (omega (arith, selector-below i h))

  pub read-size : number length_at 4 (header_of (row_at i) ++ rest) ≡ (row_at i).size
  unfolding header_of bytes number
  read-size = le_bytes 4 (row_at i).size (omega (arith, size_below i h))
