-- The parts that can be stored, and the rows of the table that they have. Assumes nothing.
use mathlib.Core.Path.{◌≡◌, refl, ap, sym, ◌∙◌}
use Prim.Native.Nat.{ℕ, zero, suc, ◌+◌, ◌*◌, ◌%◌, ◌≤◌, ◌<◌}
use native.Mathlib.Omega.{arith}
use borrow.Author.Tests.{eqb-true, eqb-false, ltb-true, lt-ltb}
use lib.Dec.{ltb, eqb}
use Rattle.std.specs.Prelude.{Option, Some, None}
use Rattle.theory.specs.Logic.{when◌then◌else◌, ◌or◌}
use Rattle.theory.proofs.Tests.{by_cases, never}
use Rattle.inventory.specs.Inventory.{row_at, offset_of, selector_of, place_of}
use Rattle.inventory.specs.Worked.{nth_of, field_at, queue_rows}
use Rattle.inventory.proofs.Rules.{table}
use Rattle.inventory.proofs.Worked.{in-queues, in-notifies, in-status, in-driver, in-features, in-fields, no_rows}
use Rattle.demands.specs.Stores.{Part, driver_features, field0, field8, field16, field22, device_status, queue, queue_notify}

-- ---- the parts, and the rows that they have ----

-- the row of a part
pub record RowOf (q t s n at : ℕ) : Type 0 where
  pub index : ℕ
  pub place : place_of q t (selector_of t s) ≡ Some index
  pub later : 0 < index
  pub size : (row_at index).size ≡ n
  pub offset : offset_of index ≡ at

-- queue k, and its notify part, by their rows
queue-rows : (k : ℕ) → k < 4 → ((row_at (7 + k)).size ≡ 32) × (offset_of (7 + k) ≡ 45 + 32 * k)
unfolding table
queue-rows zero h = (refl, refl)
queue-rows (suc zero) h = (refl, refl)
queue-rows (suc (suc zero)) h = (refl, refl)
queue-rows (suc (suc (suc zero))) h = (refl, refl)
queue-rows (suc (suc (suc (suc k)))) h = absurd (omega arith)

notify-rows : (k : ℕ) → k < 4 → ((row_at (11 + k)).size ≡ 8) × (offset_of (11 + k) ≡ 173 + 8 * k)
unfolding table
notify-rows zero h = (refl, refl)
notify-rows (suc zero) h = (refl, refl)
notify-rows (suc (suc zero)) h = (refl, refl)
notify-rows (suc (suc (suc zero))) h = (refl, refl)
notify-rows (suc (suc (suc (suc k)))) h = absurd (omega arith)

-- the n-th of them, if the member has it
nth-there : (first q n : ℕ) → n < q → q ≤ 4 → nth_of first (queue_rows q) n ≡ Some (first + n)
unfolding nth_of when◌then◌else◌
nth-there first q n h l = rw (lt-ltb n (queue_rows q) (omega arith))

nth-below : (first q n i : ℕ) → q ≤ 4 → nth_of first (queue_rows q) n ≡ Some i → (n < q) × (first + n ≡ i)
unfolding nth_of when◌then◌else◌
nth-below first q n i l e =
    by_cases (ltb n (queue_rows q))
    (λ a. (omega (arith, ltb-true n (queue_rows q) a), let d : Some (first + n) ≡ Some i = rw a at e in cc))
    (λ a. let d : None ≡ Some i = rw a at e in never cc)

-- the place of each type
module _ (q s : ℕ) where
  place-queue : place_of q 0x104 (selector_of 0x104 s) ≡ nth_of 7 (queue_rows q) (s % 65536)
  unfolding selector_of when◌then◌else◌ ◌or◌
  place-queue = sym (in-queues q 0x104 (s % 65536) (queue_rows q) (nth_of 7 (queue_rows q) (s % 65536)) refl refl refl)

  place-notify : place_of q 0x105 (selector_of 0x105 s) ≡ nth_of 11 (queue_rows q) (s % 65536)
  unfolding selector_of when◌then◌else◌ ◌or◌
  place-notify = sym (in-notifies q 0x105 (s % 65536) (queue_rows q) (nth_of 11 (queue_rows q) (s % 65536)) refl refl refl)

  place-field : (k : ℕ) → s % 4294967296 ≡ k → place_of q 0x102 (selector_of 0x102 s) ≡ field_at k
  unfolding selector_of when◌then◌else◌
  place-field k e = sym (in-fields q 0x102 (s % 4294967296) (field_at (s % 4294967296)) refl refl) ∙ ap field_at e

  place-status : place_of q 0x103 (selector_of 0x103 s) ≡ Some 6
  unfolding selector_of nth_of when◌then◌else◌ ◌or◌
  place-status = sym (in-status q 0x103 0 (Some 6) refl refl)

  place-driver : place_of q 0x101 (selector_of 0x101 s) ≡ Some 1
  unfolding selector_of nth_of when◌then◌else◌ ◌or◌
  place-driver = sym (in-driver q 0x101 0 (Some 1) refl refl)

  place-features : place_of q 0x100 (selector_of 0x100 s) ≡ Some 0
  unfolding selector_of nth_of when◌then◌else◌ ◌or◌
  place-features = sym (in-features q 0x100 0 (Some 0) refl refl)

-- row i, which a place names
row_is : (p : Option ℕ) (i k : ℕ) → p ≡ Some k → p ≡ Some i → k ≡ i
row_is p i k e f = let d : Some k ≡ Some i = sym e ∙ f in cc

module _ (q : ℕ) (few : q ≤ 4) where
  row_of : (t s i : ℕ) → place_of q t (selector_of t s) ≡ Some i → 0 < i → RowOf q t s (row_at i).size (offset_of i)
  row_of t s i e l = record { index = i; place = e; later = l; size = refl; offset = refl }

  queue-row : (s : ℕ) → s % 65536 < q → RowOf q 0x104 s 32 (45 + 32 * (s % 65536))
  queue-row s h =
      let r = queue-rows (s % 65536) (omega arith) in
      record {
        index = 7 + s % 65536;
        place = place-queue q s ∙ nth-there 7 q (s % 65536) h few;
        later = omega arith;
        size = r.0;
        offset = r.1;
      }

  notify-row : (s : ℕ) → s % 65536 < q → RowOf q 0x105 s 8 (173 + 8 * (s % 65536))
  notify-row s h =
      let r = notify-rows (s % 65536) (omega arith) in
      record {
        index = 11 + s % 65536;
        place = place-notify q s ∙ nth-there 11 q (s % 65536) h few;
        later = omega arith;
        size = r.0;
        offset = r.1;
      }

  pub part-row : {t s n at : ℕ} → Part q t s n at → RowOf q t s n at
  unfolding table field_at
  part-row (driver_features s) = row_of 0x101 s 1 (place-driver q s) (omega arith)
  part-row (field0 s e) = row_of 0x102 s 2 (place-field q s 0 e) (omega arith)
  part-row (field8 s e) = row_of 0x102 s 3 (place-field q s 8 e) (omega arith)
  part-row (field16 s e) = row_of 0x102 s 4 (place-field q s 16 e) (omega arith)
  part-row (field22 s e) = row_of 0x102 s 5 (place-field q s 22 e) (omega arith)
  part-row (device_status s) = row_of 0x103 s 6 (place-status q s) (omega arith)
  part-row (queue s h) = queue-row s h
  part-row (queue_notify s h) = notify-row s h

  -- device features cannot be
  pub no-features : {s n at : ℕ} → Part q 0x100 s n at → ⊥
  no-features {s} p = let r = part-row p in let d = row_is _ r.index 0 (place-features q s) r.place in omega (
    arith,
    r.later,
  )

  -- a part of the table but the first is one that can be stored
  module _ (t s i : ℕ) (l : 0 < i) (e : place_of q t (selector_of t s) ≡ Some i) where
    queue-at : t ≡ 0x104 → Part q t s (row_at i).size (offset_of i)
    queue-at a =
        let d = nth-below 7 q (s % 65536) i few (sym (place-queue q s) ∙ rw a at e) in
        let r = queue-rows (s % 65536) (let h = d.0 in omega arith) in
        rw (a, ← d.1, r.0, r.1) (queue s d.0)

    notify-at : t ≡ 0x105 → Part q t s (row_at i).size (offset_of i)
    notify-at a =
        let d = nth-below 11 q (s % 65536) i few (sym (place-notify q s) ∙ rw a at e) in
        let r = notify-rows (s % 65536) (let h = d.0 in omega arith) in
        rw (a, ← d.1, r.0, r.1) (queue_notify s d.0)

    one-row : (k n at : ℕ) → place_of q t (selector_of t s) ≡ Some k → (row_at k).size ≡ n → offset_of k ≡ at → Part q t s n at
        → Part q t s (row_at i).size (offset_of i)
    one-row k n at f x y p = rw (← row_is _ i k f e, x, y) p

    status-at : t ≡ 0x103 → Part q t s (row_at i).size (offset_of i)
    unfolding table
    status-at a = one-row 6 1 44 (rw a (place-status q s)) refl refl (rw a (device_status s))

    driver-at : t ≡ 0x101 → Part q t s (row_at i).size (offset_of i)
    unfolding table
    driver-at a = one-row 1 16 16 (rw a (place-driver q s)) refl refl (rw a (driver_features s))

    features-at : t ≡ 0x100 → ⊥
    features-at a = let d = row_is _ i 0 (rw a (place-features q s)) e in omega arith

    field-at : t ≡ 0x102 → Part q t s (row_at i).size (offset_of i)
    unfolding table field_at
    field-at a =
        let p : (k : ℕ) → s % 4294967296 ≡ k → place_of q t (selector_of t s) ≡ field_at k = λ k x. rw a (place-field q s k x) in
        by_cases (eqb (s % 4294967296) 0)
        (λ x. let y = eqb-true _ _ x in one-row 2 4 32 (p 0 y) refl refl (rw a (field0 s y))) λ x₁.
        by_cases (eqb (s % 4294967296) 8)
        (λ x. let y = eqb-true _ _ x in one-row 3 4 36 (p 8 y) refl refl (rw a (field8 s y))) λ x₂.
        by_cases (eqb (s % 4294967296) 16)
        (λ x. let y = eqb-true _ _ x in one-row 4 2 40 (p 16 y) refl refl (rw a (field16 s y))) λ x₃.
        by_cases (eqb (s % 4294967296) 22)
        (λ x. let y = eqb-true _ _ x in one-row 5 2 42 (p 22 y) refl refl (rw a (field22 s y))) λ x₄.
        let f : field_at (s % 4294967296) ≡ Some i = sym (p (s % 4294967296) refl) ∙ e in
        let d : None ≡ Some i = rw (x₁, x₂, x₃, x₄) at f in
        never cc

    pub row-part : Part q t s (row_at i).size (offset_of i)
    row-part =
        by_cases (eqb t 0x104) (λ a. queue-at (eqb-true t _ a)) λ a₁.
        by_cases (eqb t 0x105) (λ a. notify-at (eqb-true t _ a)) λ a₂.
        by_cases (eqb t 0x102) (λ a. field-at (eqb-true t _ a)) λ a₃.
        by_cases (eqb t 0x103) (λ a. status-at (eqb-true t _ a)) λ a₄.
        by_cases (eqb t 0x101) (λ a. driver-at (eqb-true t _ a)) λ a₅.
        by_cases (eqb t 0x100) (λ a. absurd (features-at (eqb-true t _ a))) λ a₆.
        let d : None ≡ Some i =
        no_rows q t (selector_of t s) (eqb-false _ _ a₁) (eqb-false _ _ a₂) (eqb-false _ _ a₃) (eqb-false _ _ a₄)
        (eqb-false _ _ a₅) (eqb-false _ _ a₆) ∙ e in
        never cc
