-- Runs of rows of one type and size, and all parts of a member as such runs. Assumes nothing.
use mathlib.Core.Path.{◌≡◌, refl, ap, sym, ◌∙◌}
use mathlib.Core.Bool.{Bool, true, false}
use mathlib.Core.List.{List, [], ◌∷◌, ◌++◌, append_assoc}
use Prim.Native.Nat.{ℕ, zero, suc, ◌+◌, ◌-◌, ◌*◌, ◌≤◌, ◌<◌}
use native.Mathlib.Nat.{add-zero, add_assoc, mul-zero, mul-one, mul-add, mul-le-mul}
use native.Mathlib.Omega.{arith}
use borrow.Author.Tests.{eqb-true, ltb-true, leb-true, le-ltb, lt-leb}
use mir.Syntax.{w32}
use mir.Val.{Fits}
use lib.Dec.{T, leb, ltb, eqb, ltb→lt}
use lib.ListN.{length, get_or}
use Rattle.theory.specs.Logic.{◌and◌, ◌or◌}
use Rattle.theory.specs.Bytes.{bytes_at, put}
use Rattle.theory.specs.Items.{items_from}
use Rattle.theory.proofs.Tests.{false-or, both}
use Rattle.theory.proofs.Table.{every, at}
use Rattle.theory.proofs.Sums.{length-items, sum_same}
use Rattle.theory.proofs.Items.{Written, written_start, written-room, written-end, written_at}
use Rattle.inventory.specs.declared.Row.{Row}
use Rattle.inventory.specs.Inventory.{row, rows, row_at, row_count, offset_of, values_size}
use Rattle.inventory.specs.Header.{header_of, header_size}
use Rattle.inventory.proofs.Rules.{table, every-row, every-count, row_within, offset-own}
use Rattle.capture.specs.Capture.{part_at, asks, part_item, parts_written, capture_of, CaptureFits}
use Rattle.capture.specs.Runs.{largest_value, run_row, RowsAlike, RunFits, run_of, Wrote}
use Rattle.capture.proofs.Sizes.{part_length, capture-length}
use Rattle.capture.proofs.Writes.{row_inside, row_small, wrote-next}

-- ---- one run ----

-- i parts are written; the next goes to `at`, and is that of the row `next`
pub record Running (v : List ℕ) (first count : ℕ) (r : Row) (step b : ℕ) (out₀ out : List ℕ) (at : ℕ) (next : Row) (i : ℕ) : Type 0 where
  pub written : Written (λ j. part_at v (first + j)) count b out₀ out at i
  pub here : next ≡ run_row r step i

pub run_end : (v : List ℕ) (first count : ℕ) (r : Row) (step b : ℕ) (out₀ out : List ℕ) (at : ℕ) (next : Row) (i : ℕ)
    → Running v first count r step b out₀ out at next i → count ≤ i → Wrote (run_of v first count) b out₀ out at
run_end v first count r step b out₀ out at next i w h =
    record { buffer = written-end _ _ _ _ _ _ _ w.written h; place = written_at _ _ _ _ _ _ _ w.written h }

module _ (v : List ℕ) (first count : ℕ) (r : Row) (step : ℕ) (a : RowsAlike first count r step) (e : length v ≡ values_size) where
  abbrev item : ℕ → List ℕ
  item j = part_at v (first + j)

  inside : (j : ℕ) → j < count → first + j < row_count
  inside j h = let l = a.there in omega arith

  run-item : (j : ℕ) → j < count → length (item j) ≡ header_size + r.size
  run-item j h = part_length v (first + j) (inside j h) e ∙ rw (a.rows j h)

  pub run_length : length (run_of v first count) ≡ count * (header_size + r.size)
  run_length = length-items item (λ j. header_size + r.size) count count 0 (omega arith) run-item ∙ sum_same (header_size + r.size) count 0

  pub run-start : (b : ℕ) (out : List ℕ) → b + count * (header_size + r.size) ≤ length out → Running v first count r step b out out b r 0
  run-start b out h =
      record { written = written_start item count b out (omega (arith, run_length)); here = rw (mul-zero step, mul-zero r.size, add-zero r.selector, add-zero r.offset) }

  -- a turn: row first + i is the next
  module _ (b : ℕ) (out₀ out : List ℕ) (at : ℕ) (next : Row) (i : ℕ) (w : Running v first count r step b out₀ out at next i) (h : i < count) where
    row-there : first + i < row_count
    row-there = inside i h

    row-is : next ≡ row_at (first + i)
    row-is = w.here ∙ sym (a.rows i h)

    pub run_small : next.size ≤ largest_value
    run_small = rw row-is (row_small (first + i) row-there)

    pub run_inside : next.offset + next.size ≤ length v
    run_inside = rw row-is (row_inside (first + i) v row-there e)

    pub run_room : at + (header_size + next.size) ≤ length out
    run_room = rw w.here (written-room item count b out₀ out at i w.written (header_size + r.size) h (run-item i h))

    next-item : item i ≡ header_of next ++ bytes_at next.offset next.size v
    unfolding part_at
    next-item = rw (row-is, offset-own (first + i) row-there)

    once_more : (y x : ℕ) → y + x * i + x ≡ y + x * (i + 1)
    once_more y x = let d : x * (i + 1) ≡ x * i + x = mul-add x i 1 ∙ rw mul-one in omega arith

    abbrev after : Row
    after = record { part_type = next.part_type; selector = next.selector + step; size = next.size; offset = next.offset + next.size }

    after-is : after ≡ run_row r step (i + 1)
    after-is = rw (w.here, once_more r.selector step, once_more r.offset r.size)

    -- and no sum is too large
    pub run-low : Fits w32 (next.selector + step)
    run-low =
        let n : i + 1 ≤ row_count = (let t = row-there in omega arith) in
        let m : step * (i + 1) ≤ 256 * row_count = mul-le-mul a.low.1 n in
        let l = a.low.0 in
        let c : next.selector + step ≡ r.selector + step * (i + 1) = ap (λ (x : Row). x.selector) after-is in
        omega arith

    pub run_on : (out' : List ℕ) (end : ℕ) → Wrote (header_of next ++ bytes_at next.offset next.size v) at out out' end
        → Running v first count r step b out₀ out' end after (i + 1)
    run_on out' end d = record { written = wrote-next item count b out₀ out out' _ at end i w.written h next-item d; here = after-is }

-- ---- the table of the runs ----

abbrev pub run_count : ℕ
run_count = 7

abbrev firsts : List ℕ
firsts = 0 ∷ 1 ∷ 2 ∷ 4 ∷ 6 ∷ 7 ∷ 11 ∷ []

-- their rows, with so many queues
abbrev counts : ℕ → List ℕ
counts q = 1 ∷ 1 ∷ 2 ∷ 2 ∷ 1 ∷ q ∷ q ∷ []

abbrev pub first_of : ℕ → ℕ
first_of k = get_or firsts k 0

abbrev pub count_of : ℕ → ℕ → ℕ
count_of q k = get_or (counts q) k 0

-- from one selector to the next
abbrev steps : List ℕ
steps = 0 ∷ 0 ∷ 8 ∷ 6 ∷ 0 ∷ 1 ∷ 1 ∷ []

abbrev pub step_of : ℕ → ℕ
step_of k = get_or steps k 0

-- row i is the next of the run, or not in the run
abbrev alike_at : ℕ → ℕ → ℕ → ℕ → Row → Bool
alike_at first count step i r =
    let x = run_row (row_at first) step (i - first) in
    (ltb i first or leb (first + count) i)
    or (eqb r.part_type x.part_type and eqb r.selector x.selector and eqb r.size x.size and eqb r.offset x.offset)

abbrev alike_run : ℕ → ℕ → ℕ → Bool
alike_run first count step = leb (first + count) row_count and leb (row_at first).selector 256 and leb step 256 and every (alike_at first count step) 0 rows

same_row : (x y : Row) → x.part_type ≡ y.part_type → x.selector ≡ y.selector → x.size ≡ y.size → x.offset ≡ y.offset
    → row x.part_type x.selector x.size x.offset ≡ row y.part_type y.selector y.size y.offset
same_row x y t s n o = rw (t, s, n, o)

alike : (first count step : ℕ) → alike_run first count step ≡ true → RowsAlike first count (row_at first) step
alike first count step t =
    let b = both _ _ t in
    let d = both _ _ b.0 in
    let l = both _ _ d.0 in
    let n : first + count ≤ row_count = leb-true _ _ l.0 in
    let next-alike : (j : ℕ) → j < count → row_at (first + j) ≡ run_row (row_at first) step j =
    λ j h.
    let y : ltb (first + j) first ≡ false = le-ltb (first + j) first (omega arith) in
    let z : leb (first + count) (first + j) ≡ false = lt-leb (first + count) (first + j) (omega arith) in
    let x : first + j - first ≡ j = omega arith in
    let k = both _ _ (simp (y, z, false-or, x) at (every-row (alike_at first count step) b.1 (first + j) (omega arith))) in
    let m = both _ _ k.0 in
    let p = both _ _ m.0 in
    same_row (row_at (first + j)) (run_row (row_at first) step j) (eqb-true _ _ p.0) (eqb-true _ _ p.1) (eqb-true _ _ m.1) (eqb-true _ _ k.1) in
    record { there = n; rows = next-alike; low = (leb-true _ _ l.1, leb-true _ _ d.1) }

-- one test over the table: each run is of rows alike, whatever the queues
run-alike : (q k : ℕ) → q < 5 → k < run_count → RowsAlike (first_of k) (count_of q k) (row_at (first_of k)) (step_of k)
unfolding table
run-alike q k f h =
    let t = every-count (λ q. every (λ j n. alike_run (first_of j) n (step_of j)) 0 (counts q)) refl q f in
    alike _ _ _ (at (λ j n. alike_run (first_of j) n (step_of j)) 0 (counts q) t k h)

-- ---- all parts, as runs ----

abbrev pub run : ℕ → List ℕ → ℕ → List ℕ
run q v k = run_of v (first_of k) (count_of q k)

runs-are : (q : ℕ) (v : List ℕ) → q < 5 → items_from (run q v) run_count 0 ≡ capture_of q v
unfolding table items_from parts_written part_item asks
runs-are zero v h = simp append_assoc
runs-are (suc zero) v h = simp append_assoc
runs-are (suc (suc zero)) v h = simp append_assoc
runs-are (suc (suc (suc zero))) v h = simp append_assoc
runs-are (suc (suc (suc (suc zero)))) v h = simp append_assoc
runs-are (suc (suc (suc (suc (suc q))))) v h = absurd (omega arith)

-- the runs one after the other: out₀ is the buffer before them, k runs are written, and the next goes to `at`
pub record Upto (q : ℕ) (v out₀ : List ℕ) (k : ℕ) (out : List ℕ) (at : ℕ) : Type 0 where
  pub fits : CaptureFits q v out₀
  pub written : Written (run q v) run_count 0 out₀ out at k

module _ {q : ℕ} {v out₀ : List ℕ} where
  pub upto-none : CaptureFits q v out₀ → Upto q v out₀ 0 out₀ 0
  upto-none p =
      let l = p.room in
      record {
        fits = p;
        written = written_start (run q v) run_count 0 out₀ (rw (runs-are q v p.few, capture-length q v p.few p.long) (omega arith));
      }

  module _ {k : ℕ} {out : List ℕ} {at : ℕ} (w : Upto q v out₀ k out at) where
    -- the next run: what it asks, and when it is written
    module _ (h : T (ltb k run_count)) where
      abbrev few : k < run_count
      few = ltb→lt k run_count h

      pub run-asks : RunFits v (first_of k) (count_of q k) (row_at (first_of k)) (step_of k) at out
      run-asks =
          let p = w.fits in
          let a = run-alike q k p.few few in
          record { alike = a; long = p.long; room = written-room _ _ _ _ _ _ _ w.written _ few (run_length v _ _ _ _ a p.long) }

      pub upto_next : {out' : List ℕ} {next : ℕ} → Wrote (run q v k) at out out' next → Upto q v out₀ (k + 1) out' next
      upto_next d = record { fits = w.fits; written = wrote-next _ _ _ _ _ _ _ _ _ _ w.written few refl d }

  pub upto_all : {out : List ℕ} {at : ℕ} → Upto q v out₀ run_count out at → out ≡ put 0 (capture_of q v) out₀
  upto_all w = rw (← runs-are q v w.fits.few) (written-end _ _ _ _ _ _ _ w.written (omega arith))
