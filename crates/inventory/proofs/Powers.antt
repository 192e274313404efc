-- A number is a power of two exactly where it has no bit in common with the one before it, and the code's test of a queue's
-- size and enabled field in one number. Assumes nothing.
use mathlib.Core.Path.{◌≡◌, refl, sym, ◌∙◌, ap}
use mathlib.Core.Bool.{true}
use Prim.Native.Nat.{ℕ, zero, suc, ◌+◌, ◌-◌, ◌*◌, ◌/◌, ◌%◌, ◌^◌, ◌<◌}
use native.Mathlib.Nat.{pow-suc}
use native.Mathlib.Omega.{arith}
use lib.Pow.{ones_lt}
use lib.Bits.{bit_and, and_step, and_self, and_shifted, and_mask, and_comm, and_block}
use lib.Dec.{eqb}
use borrow.Author.Tests.{eqb-true, eqb-false, eq-eqb, ne_eqb}
use Rattle.theory.specs.Logic.{◌and◌, ◌or◌}
use Rattle.theory.proofs.Tests.{by_cases, either, or-false, false-and, never}
use Rattle.theory.proofs.Ladder.{or_left, or_right}
use Rattle.inventory.specs.Queue.{power_below, ring_size}

power-alone : (k : ℕ) → bit_and (2 ^ k) (2 ^ k - 1) ≡ 0
power-alone k = let e : 1 * 2 ^ k ≡ 2 ^ k = omega arith in rw e at (and_shifted 1 k (2 ^ k - 1) (ones_lt k))

power-shares-none : (k n : ℕ) → power_below k n ≡ true → bit_and n (n - 1) ≡ 0
unfolding power_below
power-shares-none zero n e = cc
power-shares-none (suc k) n e = either _ _ e (λ q. let d : n ≡ 2 ^ k = eqb-true _ _ q in rw d (power-alone k)) (power-shares-none k n)

one-is-power : (k : ℕ) → power_below (suc k) 1 ≡ true
unfolding power_below
one-is-power zero = or_left _ _ refl
one-is-power (suc k) = or_right _ _ (one-is-power k)

doubled : (k n : ℕ) → power_below k n ≡ true → power_below (suc k) (2 * n) ≡ true
unfolding power_below
doubled zero n e = cc
doubled (suc k) n e =
    let p = pow-suc 2 k in
    either _ _ e
    (λ q. let d : n ≡ 2 ^ k = eqb-true _ _ q in or_left _ _ (eq-eqb (2 * n) (2 ^ suc k) (omega arith)))
    (λ q. or_right _ _ (doubled k n q))

-- an even number and the one before it share what their halves do; an odd number shares its other bits
shares-none : (k n : ℕ) → 0 < n → n < 2 ^ k → bit_and n (n - 1) ≡ 0 → power_below k n ≡ true
shares-none zero n z h e = absurd (omega arith)
shares-none (suc k) n z h e =
    let s : bit_and n (n - 1) ≡ bit_and (n / 2) ((n - 1) / 2) * 2 + _ = and_step n (n - 1) in
    let halves : bit_and (n / 2) ((n - 1) / 2) ≡ 0 = omega arith in
    let p = pow-suc 2 k in
    by_cases (eqb (n % 2) 0)
    (λ q.
    let even : n % 2 ≡ 0 = eqb-true _ _ q in
    let d : 2 * (n / 2) ≡ n = omega arith in
    let before : (n - 1) / 2 ≡ n / 2 - 1 = omega arith in
    rw d at (doubled k (n / 2) (shares-none k (n / 2) (omega arith) (omega arith) (rw before at halves))))
    (λ q.
    let odd : n % 2 ≡ 0 → ⊥ = eqb-false _ _ q in
    let before : (n - 1) / 2 ≡ n / 2 = omega arith in
    let none : n / 2 ≡ 0 = sym (and_self (n / 2)) ∙ rw before at halves in
    let d : n ≡ 1 = omega arith in
    rw d (one-is-power k))

pub power-tested : (k n : ℕ) → 0 < n → n < 2 ^ k → eqb (bit_and n (n - 1)) 0 ≡ power_below k n
power-tested k n z h =
    by_cases (power_below k n) (λ e. eq-eqb _ _ (power-shares-none k n e) ∙ sym e)
    (λ e. ne_eqb _ _ (λ q. let c = sym (shares-none k n z h q) ∙ e in never cc) ∙ sym e)

-- ---- the enabled field stands from bit 16 on ----

-- size 0 shares with the enabled field whatever that has
no_size : (e : ℕ) → e < 2 ^ 16 → eqb (bit_and (e * 2 ^ 16 + 0) (2 ^ 32 - 1)) 0 ≡ ring_size 0 e
unfolding ring_size power_below ◌or◌ ◌and◌
no_size e h =
    let d : (e * 2 ^ 16 + 0) % 2 ^ 32 ≡ e * 2 ^ 16 = omega arith in
    ap (λ x. eqb x 0) (and_mask (e * 2 ^ 16 + 0) 32 ∙ d)
    ∙ by_cases (eqb e 0)
    (λ q. let z : e ≡ 0 = eqb-true e 0 q in eq-eqb (e * 2 ^ 16) 0 (omega arith) ∙ sym q)
    (λ q. ne_eqb (e * 2 ^ 16) 0 (λ y. eqb-false e 0 q (omega arith)) ∙ sym q)

-- any other with itself alone
some_size : (s e : ℕ) → (s ≡ 0 → ⊥) → s < 2 ^ 16 → e < 2 ^ 16 → eqb (bit_and (e * 2 ^ 16 + s) (s + (2 ^ 32 - 1))) 0 ≡ ring_size s e
unfolding ring_size
some_size s e n h g =
    let t : s + (2 ^ 32 - 1) ≡ 2 ^ 16 * 2 ^ 16 + (s - 1) = omega arith in
    let c : bit_and e (2 ^ 16) ≡ 0 = and_comm e (2 ^ 16) ∙ and_shifted 1 16 e g in
    let b : bit_and (e * 2 ^ 16 + s) (s + (2 ^ 32 - 1)) ≡ bit_and s (s - 1) =
    ap (bit_and (e * 2 ^ 16 + s)) t ∙ and_block 16 e (2 ^ 16) s (s - 1) (omega arith) (omega arith) ∙ rw c (omega arith) in
    ap (λ x. eqb x 0) b ∙ power-tested 16 s (omega arith) h ∙ sym (rw (ne_eqb s 0 n, false-and (eqb e 0)) (or-false _))

pub ring-tested : (s e : ℕ) → s < 2 ^ 16 → e < 2 ^ 16 → eqb (bit_and (e * 2 ^ 16 + s) (s + (2 ^ 32 - 1))) 0 ≡ ring_size s e
ring-tested s e h g =
    by_cases (eqb s 0) (λ q. rw (eqb-true s 0 q) (no_size e g)) (λ q. some_size s e (eqb-false s 0 q) h g)
