-- A capture read back: its parts are those of the rows that the member has. Assumes nothing.
use mathlib.Core.Path.{◌≡◌, refl, ap, sym, ◌∙◌}
use mathlib.Core.Bool.{true, false}
use mathlib.Core.List.{List, [], ◌++◌, append_assoc, append-nil}
use Prim.Native.Nat.{ℕ, zero, suc, ◌+◌, ◌≤◌, ◌<◌}
use native.Mathlib.Nat.{add-zero}
use native.Mathlib.Omega.{arith}
use lib.ListN.{length, get_or, length-append}
use lib.Seq.{drop-append-add, take_at, drop_at, get_or-append-add}
use Rattle.theory.specs.Logic.{when◌then◌else◌}
use Rattle.theory.specs.Bytes.{bytes_at}
use Rattle.theory.specs.Items.{items_from}
use Rattle.theory.proofs.Tests.{by_cases}
use Rattle.inventory.proofs.Values.{value-long}
use Rattle.wire.specs.Le.{number}
use Rattle.inventory.specs.Inventory.{row_at, row_count, present, values_size, value_of}
use Rattle.inventory.specs.Header.{flags_at, selector_at, length_at, header_size, header_of, flags_of}
use Rattle.inventory.proofs.Rules.{length-header, selector-own}
use Rattle.inventory.proofs.Headers.{read-type, read_flags, read-selector, read-size}
use Rattle.parts.specs.declared.ListForm.TheVariants.{Parts}
use Rattle.parts.specs.Step as step
use Rattle.parts.specs.List.{value_size, step_at, Part, PartList, end, part, part_with, parts_from, parts_of}
use Rattle.parts.proofs.Walk.{step_end, step-found, header_is, parts-end, parts-part}
use Rattle.capture.specs.Capture.{All, part_at, asks, part_item, parts_written, capture_of}
use Rattle.capture.proofs.Sizes.{part_length}

-- ---- the part that stands after some bytes ----

-- x is the value of row i, whose header stands after the bytes pre
module _ (pre : List ℕ) (i : ℕ) (h : i < row_count) (x rest : List ℕ) (n : length x ≡ (row_at i).size) where
  abbrev list : List ℕ
  list = pre ++ (header_of (row_at i) ++ (x ++ rest))

  number_in : (a k : ℕ) → number (length pre + a) k list ≡ number a k (header_of (row_at i) ++ (x ++ rest))
  unfolding number
  number_in a k = rw drop-append-add

  long : length pre + header_size + (row_at i).size ≤ length list
  long = simp (length-append, length-header, n) (omega arith)

  size_in : value_size Parts list (length pre) ≡ (row_at i).size
  size_in = number_in length_at 4 ∙ read-size i h (x ++ rest)

  stands : step_at Parts list (length pre)
      ≡ step.Part (row_at i).part_type (flags_of (row_at i)) (row_at i).selector (length pre + header_size) (row_at i).size
  stands =
      let l = long in
      let s = size_in in
      let t : number (length pre) 2 list ≡ (row_at i).part_type = rw add-zero at (number_in 0 2 ∙ read-type i h (x ++ rest)) in
      let f : get_or list (length pre + flags_at) 0 ≡ flags_of (row_at i) = get_or-append-add pre _ flags_at 0 ∙ read_flags i h (x ++ rest) in
      let d : number (length pre + selector_at) 8 list ≡ (row_at i).selector = number_in selector_at 8 ∙ read-selector i h (x ++ rest) in
      step-found Parts list (length pre) (omega arith) (omega arith)
      ∙ sym (header_is Parts list (length pre) _ _ _ _ (sym s) (sym t) (sym d) (sym (selector-own i h)))
      ∙ rw f

  value_in : bytes_at (length pre + header_size) (row_at i).size list ≡ x
  value_in = rw (drop-append-add, drop_at (header_of (row_at i)) (x ++ rest) header_size (length-header (row_at i))) (take_at x rest _ n)

  pub part-stands : parts_from Parts list (length pre)
      ≡ part (part_with (row_at i).part_type (flags_of (row_at i)) (row_at i).selector x) (parts_from Parts list (length pre + header_size + (row_at i).size))
  part-stands = parts-part Parts list (length pre) stands ∙ rw value_in

-- ---- the parts of a capture ----

-- row i's part, with its value among the values v
abbrev pub row_part : List ℕ → ℕ → Part
row_part v i = part_with (row_at i).part_type (flags_of (row_at i)) (row_at i).selector (value_of v i)

-- those that the member has of k rows from the i-th on
unfoldable pub row_parts : ℕ → List ℕ → ℕ → ℕ → PartList
row_parts q v zero i = end
row_parts q v (suc k) i =
    when present q (row_at i) then part (row_part v i) (row_parts q v k (i + 1)) else
    row_parts q v k (i + 1)

module _ (q : ℕ) (v : List ℕ) where
  abbrev item : ℕ → List ℕ
  item = part_item All q [] v

  item-there : (i : ℕ) → present q (row_at i) ≡ true → item i ≡ part_at v i
  unfolding part_item asks when◌then◌else◌
  item-there i y = rw y

  item-absent : (i : ℕ) → present q (row_at i) ≡ false → item i ≡ []
  unfolding part_item asks when◌then◌else◌
  item-absent i y = rw y

  split : (i : ℕ) (rest : List ℕ) → part_at v i ++ rest ≡ header_of (row_at i) ++ (value_of v i ++ rest)
  unfolding part_at
  split i rest = append_assoc (header_of (row_at i)) (value_of v i) rest

  read-back : length v ≡ values_size → (k i : ℕ) (pre : List ℕ) → i + k ≡ row_count
      → parts_from Parts (pre ++ items_from item k i) (length pre) ≡ row_parts q v k i
  unfolding items_from row_parts when◌then◌else◌
  read-back e zero i pre n = rw append-nil (parts-end Parts pre (length pre) (step_end Parts pre (length pre) (omega arith)))
  read-back e (suc k) i pre n =
      let h : i < row_count = omega arith in
      let rest = items_from item k (i + 1) in
      by_cases (present q (row_at i))
      (λ y.
      let long = part_length v i h e in
      let len : length (pre ++ part_at v i) ≡ length pre + header_size + (row_at i).size = rw (length-append, long) (omega arith) in
      let here = part-stands pre i h (value_of v i) rest (value-long v e i h) in
      let after = rw (append_assoc, split i rest, len) at (read-back e k (i + 1) (pre ++ part_at v i) (omega arith)) in
      rw (item-there i y, y, split i rest) (here ∙ ap (part (row_part v i)) after))
      (λ y. rw (item-absent i y, y) (read-back e k (i + 1) pre (omega arith)))

  pub capture-parts : length v ≡ values_size → parts_of Parts (capture_of q v) ≡ row_parts q v row_count 0
  unfolding parts_written
  capture-parts e = read-back e row_count 0 [] refl

  -- ---- a claim about them, row by row ----

  -- P i ps: of the parts ps of the rows from the i-th on
  pub by_rows : (P : ℕ → PartList → Type 0) → P row_count end
      → ((i : ℕ) (ps : PartList) → i < row_count → present q (row_at i) ≡ true → P (i + 1) ps → P i (part (row_part v i) ps))
      → ((i : ℕ) (ps : PartList) → i < row_count → present q (row_at i) ≡ false → P (i + 1) ps → P i ps)
      → (k i : ℕ) → i + k ≡ row_count → P i (row_parts q v k i)
  unfolding row_parts when◌then◌else◌
  by_rows P z s t zero i n = let e : i ≡ row_count = omega arith in rw e z
  by_rows P z s t (suc k) i n =
      let ih = by_rows P z s t k (i + 1) (omega arith) in
      by_cases (present q (row_at i)) (λ y. rw y (s i _ (omega arith) y ih)) (λ y. rw y (t i _ (omega arith) y ih))

-- a row's part is the same where its value is
pub item-same : (q : ℕ) (v w : List ℕ) (i : ℕ)
    → (present q (row_at i) ≡ true → value_of v i ≡ value_of w i)
    → part_item All q [] v i ≡ part_item All q [] w i
unfolding part_at
item-same q v w i f =
    by_cases (present q (row_at i))
    (λ y. item-there q v i y ∙ rw (f y) (sym (item-there q w i y)))
    (λ y. item-absent q v i y ∙ sym (item-absent q w i y))
