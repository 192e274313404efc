-- Masks of opcodes: where their bits lie. Assumes nothing.
use mathlib.Core.Path.{◌≡◌, refl, sym, ◌∙◌}
use mathlib.Core.Bool.{true, false}
use Prim.Native.Nat.{ℕ, zero, suc, ◌+◌, ◌-◌, ◌/◌, ◌%◌, ◌^◌, ◌<◌, ◌≤◌}
use native.Mathlib.Nat.{lt_of_lt_of_le, div-eq_of_lt, zero-div, zero-mul, mod-one, mod-eq_of_lt}
use native.Mathlib.Numerals.{one-add}
use native.Mathlib.Omega.{arith}
use borrow.Author.Tests.{eq-eqb, eqb-true, ltb-true, lt-ltb}
use lib.Dec.{ltb, eqb, lit<}
use lib.Pow.{pow_mono, shr-shr, field, mod-mod-pow, mod-pow-add}
use Rattle.theory.proofs.Tests.{by_cases, both, and_i, or-i, inside, below, tests}
use Rattle.theory.proofs.Table.{every}
use Rattle.theory.proofs.Ladder.{or_left, or_right}
use Rattle.theory.specs.Logic.{◌and◌}
use Rattle.protocol.proofs.Rows.{by_rows, supported-is, supported-out}
use Rattle.protocol.specs.Opcodes.{opcode_rows, bit, supported, names_member, supported_only, supported_mask, fresh_mask}

-- a number below 2 ^ n has no bit from n up
pub bit-out : (n mask k : ℕ) → mask < 2 ^ n → n ≤ k → bit mask k ≡ false
unfolding bit
bit-out n mask k h l = rw (div-eq_of_lt (lt_of_lt_of_le h (pow_mono l)))

-- a 64-bit word has none from 64 up
pub past_word : (mask k : ℕ) → mask < 2 ^ 64 → 63 < k → false ≡ bit mask k
past_word mask k h l = sym (bit-out 64 mask k h l)

-- the bits of a number that is shifted
shifted : (n x i : ℕ) → bit (x / 2 ^ n) i ≡ bit x (n + i)
unfolding bit
shifted n x i = rw shr-shr

-- the low n bits are clear exactly where 2 ^ n divides
clear-low : (n x i : ℕ) → x % 2 ^ n ≡ 0 → i < n → bit x i ≡ false
unfolding bit
clear-low n x i e h =
    let s : n - suc i + 1 + i ≡ n = omega arith in
    let z : x / 2 ^ i % 2 ≡ 0 = sym (mod-mod-pow (x / 2 ^ i) (n - suc i) 1) ∙ rw (← field x (n - suc i + 1) i, s, e, zero-div) in
    rw z

low_clear : (n x : ℕ) → ((i : ℕ) → i < n → bit x i ≡ false) → x % 2 ^ n ≡ 0
unfolding bit
low_clear zero x f = mod-one x
low_clear (suc n) x f =
    let b : eqb (x / 2 ^ n % 2) 1 ≡ false = f n (omega arith) in
    let z : x / 2 ^ n % 2 ≡ 0 = omega tests in
    rw (← one-add n, mod-pow-add, z, low_clear n x (λ i h. f i (omega arith)), zero-mul)

under_pow : (n : ℕ) → n < 2 ^ n
under_pow zero = omega arith
under_pow (suc n) = omega (arith, under_pow n)

no_bits : (x : ℕ) → ((i : ℕ) → bit x i ≡ false) → x ≡ 0
no_bits x f = sym (mod-eq_of_lt (under_pow x)) ∙ low_clear x x (λ i h. f i)

-- the mask of the list query has the bit of each supported opcode and no other
pub supported-mask : (op : ℕ) → bit supported_mask op ≡ supported op
unfolding every ◌and◌ opcode_rows bit
supported-mask op = sym (by_rows (bit supported_mask) refl (λ k h. bit-out 18 supported_mask k (lit< tt) h) op)

-- a mask has supported bits only exactly where each of its bits stands for a supported opcode
module _ (mask : ℕ) where
  pub only-supported : supported_only mask ≡ true → (k : ℕ) → bit mask k ≡ true → supported k ≡ true
  unfolding supported_only names_member
  only-supported e k b =
      let p = both _ _ e in
      by_cases (ltb k 2) (λ s. supported-is k ∙ or_left _ _ s)
      (λ s. by_cases (ltb k 10)
      (λ t. let q : 2 + (k - 2) ≡ k = omega tests in
      cc (rw q at (shifted 2 mask (k - 2)), clear-low 8 (mask / 4) (k - 2) (eqb-true _ _ p.0) (omega tests)))
      (λ t. by_cases (ltb k 18)
      (λ u. supported-is k ∙ or_right (ltb k 2) _ (inside 0x0a 0x11 k (omega tests) (omega tests)))
      (λ u. cc (bit-out 18 mask k (ltb-true _ _ p.1) (omega tests)))))

  pub supported-only : ((k : ℕ) → bit mask k ≡ true → supported k ≡ true) → supported_only mask ≡ true
  unfolding supported_only names_member
  supported-only f =
      let clear : (k : ℕ) → supported k ≡ false → bit mask k ≡ false =
      λ k s. by_cases (bit mask k) (λ b. cc (f k b)) (λ b. b) in
      let low : mask / 4 % 256 ≡ 0 = low_clear 8 (mask / 4)
      (λ i h. shifted 2 mask i ∙ clear (2 + i)
      (supported-is (2 + i) ∙ or-i (ltb (2 + i) 2) _ (omega tests) (below 0x0a 0x11 (2 + i) (omega arith)))) in
      let high : mask / 2 ^ 18 ≡ 0 = no_bits (mask / 2 ^ 18)
      (λ i. shifted 18 mask i ∙ clear (18 + i) (sym (supported-out (18 + i) (omega arith)))) in
      and_i _ _ (eq-eqb _ _ low) (lt-ltb mask (2 ^ 18) (omega arith))

pub mask_fits : (mask : ℕ) → supported_only mask ≡ true → mask < 256 ^ 8
unfolding supported_only
mask_fits mask e = let l = (both _ _ e).1 in omega tests

pub fresh-only : supported_only fresh_mask ≡ true
unfolding supported_only ◌and◌
fresh-only = refl
