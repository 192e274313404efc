-- Parts that are written, all of them or those asked for, stand whole to the end of the list. Assumes nothing.
use mathlib.Core.Path.{◌≡◌, refl}
use mathlib.Core.Bool.{true}
use mathlib.Core.List.{List, [], ◌++◌, append_assoc, append-nil}
use Prim.Native.Nat.{ℕ, zero, suc, ◌+◌, ◌<◌}
use native.Mathlib.Omega.{arith}
use lib.ListN.{length, length-append}
use Rattle.theory.specs.Logic.{when◌then◌else◌}
use Rattle.theory.specs.Items.{items_from}
use Rattle.theory.proofs.Tests.{by_cases}
use Rattle.inventory.proofs.Values.{value-long}
use Rattle.inventory.specs.Inventory.{row_at, row_count, values_size, value_of}
use Rattle.inventory.specs.Header.{header_size}
use Rattle.parts.specs.declared.ListForm.TheVariants.{Parts}
use Rattle.parts.specs.List.{parts_from, parts_of, whole}
use Rattle.parts.proofs.Walk.{step_end, parts-end}
use Rattle.capture.specs.Capture.{Selection, part_at, asks, part_item, parts_written}
use Rattle.capture.proofs.Sizes.{part_length}
use Rattle.restore.proofs.Rows.{part-stands}

module _ (selection : Selection) (queues : ℕ) (list values : List ℕ) (e : length values ≡ values_size) where
  -- the items of k rows from the i-th on, after some bytes
  whole_from : (k i : ℕ) (pre : List ℕ) → i + k ≡ row_count
      → whole (parts_from Parts (pre ++ items_from (part_item selection queues list values) k i) (length pre)) ≡ true
  unfolding items_from part_item part_at whole when◌then◌else◌
  whole_from zero i pre n = rw (append-nil, parts-end Parts pre (length pre) (step_end Parts pre (length pre) (omega arith)))
  whole_from (suc k) i pre n =
      let h : i < row_count = omega arith in
      let rest = items_from (part_item selection queues list values) k (i + 1) in
      by_cases (asks selection queues list (row_at i))
      (λ y.
      let long : length (pre ++ part_at values i) ≡ length pre + header_size + (row_at i).size =
      rw (length-append, part_length values i h e) (omega arith) in
      let here = part-stands pre i h (value_of values i) rest (value-long values e i h) in
      let after = rw (append_assoc, append_assoc, long) at (whole_from k (i + 1) (pre ++ part_at values i) (omega arith)) in
      rw (y, append_assoc, here) after)
      (λ y. rw y (whole_from k (i + 1) pre (omega arith)))

  pub written-whole : whole (parts_of Parts (parts_written selection queues list values)) ≡ true
  unfolding parts_written
  written-whole = whole_from row_count 0 [] refl
