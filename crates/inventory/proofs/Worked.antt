-- The row worked out from type and selector is the one that the search in the table finds: a law for each type, and one for
-- every other number. Assumes nothing.
use mathlib.Core.Path.{◌≡◌, refl, sym, ◌∙◌}
use mathlib.Core.Logic.{◌≢◌}
use mathlib.Core.Bool.{true, false}
use Prim.Native.Nat.{ℕ, zero, suc, ◌+◌, ◌<◌, ◌≤◌}
use native.Mathlib.Omega.{arith}
use borrow.Author.Tests.{eqb-true, eqb-false, ne_eqb, ltb-true, ltb-false, lt-ltb, le-ltb}
use lib.Dec.{ltb, eqb}
use Rattle.std.specs.Prelude.{Option, Some, None}
use Rattle.theory.specs.Logic.{when◌then◌else◌, ◌and◌}
use Rattle.theory.proofs.Tests.{by_cases}
use Rattle.inventory.specs.Inventory.{device_features, driver_features, pci_common, device_status, queue, queue_notify, place_of}
use Rattle.inventory.specs.Worked.{nth_of, field_at, queue_rows}
use Rattle.inventory.proofs.Rules.{table}

-- the table's tests have the row's number first
turned : (k n : ℕ) → n ≢ k → eqb k n ≡ false
turned k n h = ne_eqb k n (λ e. h (sym e))

-- ---- the types of a queue ----

-- a number below 4 is that of a queue with rows if it is that of a queue; no other one is
below_rows : (q n : ℕ) → n < 4 → ltb n (queue_rows q) ≡ ltb n q
below_rows q n h =
    by_cases (ltb n q)
    (λ e. rw e (lt-ltb n (queue_rows q) (omega (arith, ltb-true n q e))))
    (λ e. rw e (le-ltb n (queue_rows q) (omega (arith, ltb-false n q e))))

past-rows : (q n : ℕ) → 4 ≤ n → ltb n (queue_rows q) ≡ false
past-rows q n h = le-ltb n (queue_rows q) (omega arith)

-- the search among the four rows of such a type
unfoldable among : ℕ → ℕ → ℕ → Option ℕ
among first q n =
    when eqb 0 n and ltb 0 q then Some (first + 0) else
    when eqb 1 n and ltb 1 q then Some (first + 1) else
    when eqb 2 n and ltb 2 q then Some (first + 2) else
    when eqb 3 n and ltb 3 q then Some (first + 3) else
    None

among-past : (first q n : ℕ) → 4 ≤ n → nth_of first (queue_rows q) n ≡ among first q n
unfolding among nth_of when◌then◌else◌ ◌and◌
among-past first q n h =
    rw (past-rows q n h, turned 0 n (λ e. omega arith), turned 1 n (λ e. omega arith), turned 2 n (λ e. omega arith), turned 3 n (λ e. omega arith))

among-is : (first q n : ℕ) → nth_of first (queue_rows q) n ≡ among first q n
unfolding among nth_of when◌then◌else◌ ◌and◌
among-is first q zero = rw (below_rows q 0 (omega arith))
among-is first q (suc zero) = rw (below_rows q 1 (omega arith))
among-is first q (suc (suc zero)) = rw (below_rows q 2 (omega arith))
among-is first q (suc (suc (suc zero))) = rw (below_rows q 3 (omega arith))
among-is first q (suc (suc (suc (suc n)))) = among-past first q (suc (suc (suc (suc n)))) (omega arith)

-- ---- a type with one row ----

unfoldable alone : ℕ → ℕ → Option ℕ
alone first n = when eqb 0 n and true then Some (first + 0) else None

alone-is : (first n : ℕ) → nth_of first 1 n ≡ alone first n
unfolding alone nth_of when◌then◌else◌ ◌and◌
alone-is first zero = refl
alone-is first (suc n) = rw (le-ltb (suc n) 1 (omega arith), turned 0 (suc n) (λ e. omega arith))

-- ---- what the code works out: r is what a callee answered for a type and selector ----

module _ (q t n k : ℕ) (r : Option ℕ) where
  pub in-queues : k ≡ queue_rows q → r ≡ nth_of 7 k n → t ≡ queue → r ≡ place_of q t n
  unfolding among table
  in-queues e h i = h ∙ rw (e, i) (among-is 7 q n)

  pub in-notifies : k ≡ queue_rows q → r ≡ nth_of 11 k n → t ≡ queue_notify → r ≡ place_of q t n
  unfolding among table
  in-notifies e h i = h ∙ rw (e, i) (among-is 11 q n)

module _ (q t n : ℕ) (r : Option ℕ) where
  pub in-status : r ≡ nth_of 6 1 n → t ≡ device_status → r ≡ place_of q t n
  unfolding alone table
  in-status h i = h ∙ rw i (alone-is 6 n)

  pub in-driver : r ≡ nth_of 1 1 n → t ≡ driver_features → r ≡ place_of q t n
  unfolding alone table
  in-driver h i = h ∙ rw i (alone-is 1 n)

  pub in-features : r ≡ nth_of 0 1 n → t ≡ device_features → r ≡ place_of q t n
  unfolding alone table
  in-features h i = h ∙ rw i (alone-is 0 n)

  pub in-fields : r ≡ field_at n → t ≡ pci_common → r ≡ place_of q t n
  unfolding field_at table
  in-fields h i =
      h ∙ rw i
      (by_cases (eqb n 0) (λ e. rw (e, eqb-true n 0 e)) λ e₀.
      by_cases (eqb n 8) (λ e. rw (e₀, e, eqb-true n 8 e)) λ e₁.
      by_cases (eqb n 16) (λ e. rw (e₀, e₁, e, eqb-true n 16 e)) λ e₂.
      by_cases (eqb n 22) (λ e. rw (e₀, e₁, e₂, e, eqb-true n 22 e)) λ e₃.
      rw (e₀, e₁, e₂, e₃, turned 0 n (eqb-false n 0 e₀), turned 8 n (eqb-false n 8 e₁), turned 16 n (eqb-false n 16 e₂), turned 22 n (eqb-false n 22 e₃)))

-- no other type has rows
pub no_rows : (q t n : ℕ) → t ≢ queue → t ≢ queue_notify → t ≢ pci_common → t ≢ device_status → t ≢ driver_features → t ≢ device_features
    → None ≡ place_of q t n
unfolding table
no_rows q t n a b c d e f = rw (turned _ t a, turned _ t b, turned _ t c, turned _ t d, turned _ t e, turned _ t f)
