-- What the values of queues may be: as the code tests it, queue by queue, and as rows of the table. Assumes nothing.
use mathlib.Core.Path.{◌≡◌, refl, sym, ◌∙◌, ap}
use mathlib.Core.Bool.{Bool, true, false, not}
use mathlib.Core.List.{List}
use Prim.Native.Nat.{ℕ, zero, suc, ◌+◌, ◌*◌, ◌^◌, ◌≤◌, ◌<◌}
use native.Mathlib.Nat.{add-zero}
use native.Mathlib.Omega.{arith}
use lib.Dec.{leb, ltb, eqb}
use lib.ListN.{length}
use lib.Seq.{take_all}
use lib.Bits.{bit_and}
use borrow.Author.Tests.{eqb-true, eqb-false, eq-eqb, ltb-true, lt-ltb, leb-false, lt-leb, not-true, not-false}
use Rattle.theory.specs.Logic.{unless◌answer◌then◌, ◌and◌, ◌or◌}
use Rattle.theory.specs.Bytes.{bytes_at}
use Rattle.theory.proofs.Tests.{by_cases, unless-cases, both, and_i, false-or, or-true, true-or}
use Rattle.theory.proofs.Bytes.{length-bytes_at, bytes_at-bytes_at}
use Rattle.wire.specs.Le.{number}
use Rattle.inventory.specs.Inventory.{queue, row, rows, row_at, row_count, present, offset_of, values_size, value_of}
use Rattle.inventory.specs.Worked.{queue_rows}
use Rattle.inventory.specs.Queue.{ring_size, queue_size, enabled_at, queue_allowed, value_allowed, queue_row, queue_value, queues_allowed}
use Rattle.inventory.proofs.Rules.{table, every-row, row_within}
use Rattle.inventory.proofs.Powers.{ring-tested}

-- ---- as the code tests it ----

pub fault-tested : (s e : ℕ) → s < 2 ^ 16 → e < 2 ^ 16 → eqb (bit_and (65536 * e + s) (s + 0xffffffff)) 0 ≡ ring_size s e
fault-tested s e h g = let d : 65536 * e + s ≡ e * 2 ^ 16 + s = omega arith in rw d (ring-tested s e h g)

-- the value of a queue that stands at a place
module _ (l : List ℕ) (at : ℕ) where
  pub allowed_at : queue_allowed (bytes_at at queue_size l) ≡ ring_size (number at 2 l) (number (at + enabled_at) 2 l)
  unfolding queue_allowed number
  allowed_at = rw (bytes_at-bytes_at 0 2 at queue_size l (omega arith), bytes_at-bytes_at enabled_at 2 at queue_size l (omega arith), add-zero)

  pub queue-read : (s e r : ℕ) → s ≡ number at 2 l → e ≡ number (at + enabled_at) 2 l → eqb r 0 ≡ ring_size s e
      → eqb r 0 ≡ queue_allowed (bytes_at at queue_size l)
  queue-read s e r x y t = rw (allowed_at, ← x, ← y) t

-- a whole value
pub value_read : (l : List ℕ) (b : Bool) → length l ≡ queue_size → b ≡ queue_allowed (bytes_at 0 queue_size l) → b ≡ queue_allowed l
value_read l b n e = e ∙ ap queue_allowed (take_all queue_size l (omega arith))

-- ---- the four queues, one by one ----

module _ (q : ℕ) (v : List ℕ) where
  pub each-allowed : queues_allowed q v ≡ true → (k : ℕ) → k < q → k < 4 → queue_allowed (queue_value k v) ≡ true
  unfolding queues_allowed
  each-allowed e k h l =
      let x = both _ _ e in
      let y = both _ _ x.0 in
      let z = both _ _ y.0 in
      let has : (j : ℕ) → k ≡ j → leb q j or queue_allowed (queue_value j v) ≡ true → queue_allowed (queue_value k v) ≡ true =
      λ j n t. rw n (rw (lt-leb q j (omega arith), false-or) at t) in
      by_cases (eqb k 0) (λ t. has 0 (eqb-true k 0 t) z.0) λ t.
      by_cases (eqb k 1) (λ u. has 1 (eqb-true k 1 u) z.1) λ u.
      by_cases (eqb k 2) (λ w. has 2 (eqb-true k 2 w) y.1) λ w.
      has 3 (omega (arith, eqb-false k 0 t, eqb-false k 1 u, eqb-false k 2 w)) x.1

  pub all-allowed : ((k : ℕ) → k < q → k < 4 → queue_allowed (queue_value k v) ≡ true) → queues_allowed q v ≡ true
  unfolding queues_allowed
  all-allowed f = and_i _ _ (and_i _ _ (and_i _ _ (one 0 (omega arith)) (one 1 (omega arith))) (one 2 (omega arith))) (one 3 (omega arith))
    where
      one : (k : ℕ) → k < 4 → leb q k or queue_allowed (queue_value k v) ≡ true
      one k l = by_cases (leb q k) (λ t. rw t (true-or _)) (λ t. rw (f k (leb-false q k t) l) (or-true _))

-- ---- a loop over those that are there ----

queue-place : (k : ℕ) → k < 4 → offset_of (queue_row k) ≡ 45 + 32 * k
unfolding offset_of rows
queue-place zero l = refl
queue-place (suc zero) l = refl
queue-place (suc (suc zero)) l = refl
queue-place (suc (suc (suc zero))) l = refl
queue-place (suc (suc (suc (suc k)))) l = absurd (omega arith)

pub rows_few : (q n : ℕ) → n ≡ queue_rows q → n ≤ 4
rows_few q n e = omega arith

within-rows : (q k : ℕ) → k < queue_rows q → k < q
within-rows q k h = omega arith

rows-within : (q k : ℕ) → k < q → k < 4 → k < queue_rows q
rows-within q k h l = omega arith

-- those below k are allowed, of n that have rows
module _ (q : ℕ) (v : List ℕ) (n : ℕ) (e : n ≡ queue_rows q) where
  pub each_start : queues_allowed 0 v ≡ true
  each_start = all-allowed 0 v (λ k h l. absurd (omega arith))

  module _ (k : ℕ) (a : queues_allowed k v ≡ true) where
    module _ (h : k < n) (b : Bool) (d : b ≡ queue_allowed (bytes_at (45 + 32 * k) queue_size v)) where
      few : k < 4
      few = omega (arith, rows_few q n e)

      at_place : b ≡ queue_allowed (queue_value k v)
      at_place = rw (queue-place k few) d

      pub each-stop : not b ≡ true → false ≡ queues_allowed q v
      each-stop t =
          by_cases (queues_allowed q v)
          (λ u. let x : true ≡ false = sym (each-allowed q v u k (within-rows q k (rw e at h)) few) ∙ sym at_place ∙ not-true b t in cc)
          sym

      pub each_on : not b ≡ false → queues_allowed (k + 1) v ≡ true
      each_on t = all-allowed (k + 1) v λ j i l.
          by_cases (eqb j k)
          (λ u. rw (eqb-true j k u) (sym at_place ∙ not-false b t))
          (λ u. each-allowed k v a j (omega (arith, eqb-false j k u)) l)

    pub each-end : n ≤ k → true ≡ queues_allowed q v
    each-end h = sym (all-allowed q v λ j i l. each-allowed k v a j (omega (arith, rw (← e) at (rows-within q j i l))) l)

-- ---- and as rows of the table ----

queue-row : (k : ℕ) → k < 4 → row_at (queue_row k) ≡ row queue k queue_size (45 + 32 * k)
unfolding table
queue-row zero l = refl
queue-row (suc zero) l = refl
queue-row (suc (suc zero)) l = refl
queue-row (suc (suc (suc zero))) l = refl
queue-row (suc (suc (suc (suc k)))) l = absurd (omega arith)

-- a row of a queue's type is that of queue k
record IsQueue (i : ℕ) : Type 0 where
  place : i ≡ queue_row (row_at i).selector
  few : (row_at i).selector < 4

is-queue : (i : ℕ) → i < row_count → (row_at i).part_type ≡ queue → IsQueue i
unfolding table
is-queue i h e =
    let t = every-row (λ k r. not (eqb r.part_type queue) or (eqb k (queue_row r.selector) and ltb r.selector 4)) refl i h in
    let b = both _ _ (rw (eq-eqb _ _ e) at t) in
    record { place = eqb-true _ _ b.0; few = ltb-true _ _ b.1 }

module _ (q : ℕ) (v : List ℕ) where
  pub row-allowed : queues_allowed q v ≡ true → (i : ℕ) → i < row_count → present q (row_at i) ≡ true
      → value_allowed (row_at i).part_type (value_of v i) ≡ true
  unfolding value_allowed present ◌or◌
  row-allowed a i h y =
      unless-cases (λ b. b ≡ true) _ _ _ (λ t. refl) λ t.
      unless-cases (λ b. b ≡ true) _ _ _ (λ t. refl) λ u.
      let e = eqb-true _ _ t in
      let w = is-queue i h e in
      let k : (row_at i).selector < q = ltb-true _ _ (rw e at y) in
      let r = queue-row (row_at i).selector w.few in
      rw (w.place, r) (each-allowed q v a (row_at i).selector k w.few)

  pub rows-allowed : length v ≡ values_size
      → ((i : ℕ) → i < row_count → present q (row_at i) ≡ true → value_allowed (row_at i).part_type (value_of v i) ≡ true)
      → queues_allowed q v ≡ true
  unfolding value_allowed present unless◌answer◌then◌
  rows-allowed n f = all-allowed q v λ k h l.
      let r = queue-row k l in
      let i : queue_row k < row_count = omega arith in
      let long : length (queue_value k v) ≡ queue_size = length-bytes_at (offset_of (queue_row k)) queue_size v (omega (arith, rw r at (row_within (queue_row k) i))) in
      rw (eq-eqb _ _ long) at (rw r at (f (queue_row k) i (rw (r, lt-ltb k q h) (or-true _))))
