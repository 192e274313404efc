-- Fields of bits: one law gives the number at any position, of any width. Assumes nothing.
use mathlib.Core.Path.{◌≡◌, refl, sym, ap, ◌∙◌}
use mathlib.Core.List.{List, [], ◌∷◌, ◌++◌, append_assoc}
use Prim.Native.Nat.{ℕ, zero, suc, ◌+◌, ◌-◌, ◌*◌, ◌/◌, ◌%◌, ◌^◌, ◌≤◌, ◌<◌}
use native.Mathlib.Numerals.{add-one}
use native.Mathlib.Nat.{zero-add, zero-div, pow-suc, mod-one, add_comm}
use native.Mathlib.Omega.{arith}
use mir.Syntax.{w8}
use mir.Val.{Fits}
use lib.Dec.{ltb}
use lib.ListN.{length, get_or, get_or-eq_default, length-append}
use lib.Pow.{pow_mono, shr-shr, field, high, low, mod-mod-pow, mod-pow-add}
use lib.Seq.{get_or_at}
use borrow.Author.Tests.{ltb-true}
use Rattle.theory.proofs.Tests.{by_cases, tests}
use Rattle.setups.specs.Bits.{bit, bits_at, Field, widths, joined, big_endian, packed}

-- ---- reading ----

pub bit_past : (k : ℕ) (l : List ℕ) → length l ≤ k / 8 → 0 ≡ bit k l
unfolding bit
bit_past k l h = rw (get_or-eq_default l 0 h, zero-div)

bit-small : (k : ℕ) (l : List ℕ) → bit k l < 2
unfolding bit
bit-small k l = omega arith

pub bits_below : (at n : ℕ) (l : List ℕ) → bits_at at n l < 2 ^ n
unfolding bits_at
bits_below at zero l = omega arith
bits_below at (suc n) l = rw pow-suc (omega (arith, bits_below at n l, bit-small (at + n) l))

-- the loop: r holds the first i of n bits
module _ (at : ℕ) (l : List ℕ) where
  pub bits-start : 0 ≡ bits_at at 0 l
  unfolding bits_at
  bits-start = omega arith

  module _ (r i : ℕ) (e : r ≡ bits_at at i l) where
    module _ (n : ℕ) (h : i < n) (k : n ≤ 8) where
      bits-room : r < 128
      bits-room =
          let m : i ≤ 7 = omega arith in
          rw e (omega (arith, bits_below at i l, pow_mono m))

      pub bits-twice : Fits w8 (2 * r)
      bits-twice = record { fits = omega (arith, bits-room) }

      pub bits-more : (b : ℕ) → b < 2 → Fits w8 (2 * r + b)
      bits-more b q = record { fits = omega (arith, bits-room) }

    pub bits-on : (b : ℕ) → b ≡ bit (at + i) l → 2 * r + b ≡ bits_at at (i + 1) l
    unfolding bits_at
    bits-on b q = rw (e, q, add-one)

    pub bits-end : (n : ℕ) → i ≤ n → n ≤ i → r ≡ bits_at at n l
    bits-end n h k = let d : i ≡ n = omega arith in rw (← d) e

    pub bits_small : (n : ℕ) → i ≤ n → n ≤ i → r < 2 ^ n
    bits_small n h k = rw (bits-end n h k) (bits_below at n l)

-- ---- fields one after the other ----

pub widths-append : (f g : List Field) → widths (f ++ g) ≡ widths f + widths g
unfolding widths
widths-append [] g = sym (zero-add (widths g))
widths-append (x ∷ f) g = omega (arith, widths-append f g)

pub joined-append : (x : ℕ) (f g : List Field) → joined x (f ++ g) ≡ joined (joined x f) g
unfolding joined
joined-append x [] g = refl
joined-append x (y ∷ f) g = joined-append (x * 2 ^ y.width + y.value) f g

-- ---- the bytes of a number: any bits of them are the number's ----

pub length-big : (n x : ℕ) → length (big_endian n x) ≡ n
unfolding big_endian
length-big zero x = refl
length-big (suc n) x = rw (length-append, length-big n (x / 256)) (omega arith)

byte_of : (n x j : ℕ) (rest : List ℕ) → j < n → get_or (big_endian n x ++ rest) j 0 ≡ x / 2 ^ (8 * (n - 1 - j)) % 256
unfolding big_endian
byte_of zero x j rest h = absurd (omega arith)
byte_of (suc n) x j rest h =
    rw append_assoc (by_cases (ltb j n)
    (λ e.
    let k : j < n = ltb-true j n e in
    let d : 8 + 8 * (n - 1 - j) ≡ 8 * (suc n - 1 - j) = omega arith in
    byte_of n (x / 256) j (x % 256 ∷ rest) k ∙ rw (shr-shr x 8 (8 * (n - 1 - j)), d))
    (λ e.
    let k : length (big_endian n (x / 256)) ≡ j = length-big n (x / 256) ∙ omega tests in
    let d : 8 * (suc n - 1 - j) ≡ 0 = omega tests in
    get_or_at (big_endian n (x / 256)) (x % 256) rest 0 j k ∙ rw d (omega arith)))

bit-of : (n x k : ℕ) (rest : List ℕ) → k < 8 * n → bit k (big_endian n x ++ rest) ≡ x / 2 ^ (8 * n - 1 - k) % 2
unfolding bit
bit-of n x k rest h =
    let y = x / 2 ^ (8 * (n - 1 - k / 8)) in
    let s = 7 - k % 8 in
    let w : k % 8 + 1 + s ≡ 8 = omega arith in
    let d : 8 * (n - 1 - k / 8) + s ≡ 8 * n - 1 - k = omega arith in
    let f : y % 256 / 2 ^ s ≡ y / 2 ^ s % 2 ^ (k % 8 + 1) = rw w at (field y (k % 8 + 1) s) in
    rw (byte_of n x (k / 8) rest (omega arith), f, mod-mod-pow (y / 2 ^ s) (k % 8) 1, shr-shr x (8 * (n - 1 - k / 8)) s, d)

-- THE LAW: the number at a position, of a width
pub bits_of : (n x at w : ℕ) (rest : List ℕ) → at + w ≤ 8 * n → bits_at at w (big_endian n x ++ rest) ≡ x / 2 ^ (8 * n - at - w) % 2 ^ w
unfolding bits_at
bits_of n x at zero rest h = sym (mod-one _)
bits_of n x at (suc w) rest h =
    let m = 8 * n - at - suc w in
    let d : 8 * n - at - w ≡ m + 1 = omega arith in
    let e : 8 * n - 1 - (at + w) ≡ m = omega arith in
    let y = x / 2 ^ m in
    let p : y % 2 ^ suc w ≡ (y / 2 ^ 1 % 2 ^ w) * 2 ^ 1 + y % 2 ^ 1 = ap (λ (k : ℕ). y % 2 ^ k) (sym (add-one w)) ∙ mod-pow-add y w 1 in
    rw (bits_of n x at w rest (omega arith), bit-of n x (at + w) rest (omega arith), d, e, ← shr-shr x m 1, p) (omega arith)

-- ---- fields that are written read back ----

-- each number fits its bits
pub data Fit : List Field → Type 0 where
  none : Fit []
  more : {fs : List Field} (f : Field) → f.value < 2 ^ f.width → Fit fs → Fit (f ∷ fs)

joined-high : {fs : List Field} (x : ℕ) → Fit fs → joined x fs / 2 ^ widths fs ≡ x
unfolding joined widths
joined-high x none = omega arith
joined-high x (more {fs} f h k) =
    ap (λ (n : ℕ). joined x (f ∷ fs) / 2 ^ n) (add_comm f.width (widths fs))
    ∙ sym (shr-shr (joined x (f ∷ fs)) (widths fs) f.width)
    ∙ rw (joined-high (x * 2 ^ f.width + f.value) k) (high x f.width h)

-- from a position on, these are the fields
pub data Reads (l : List ℕ) : ℕ → List Field → Type 0 where
  none : {at : ℕ} → Reads l at []
  more : {at : ℕ} {f : Field} {fs : List Field} → bits_at at f.width l ≡ f.value → Reads l (at + f.width) fs → Reads l at (f ∷ fs)

reads-from : {fs : List Field} (n x at : ℕ) (rest : List ℕ) → Fit fs → at + widths fs ≡ 8 * n → Reads (big_endian n (joined x fs) ++ rest) at fs
unfolding joined widths
reads-from n x at rest none e = none
reads-from n x at rest (more {fs} f h k) e =
    let y = x * 2 ^ f.width + f.value in
    let d : 8 * n - at - f.width ≡ widths fs = omega arith in
    let b : bits_at at f.width (big_endian n (joined y fs) ++ rest) ≡ f.value =
    bits_of n (joined y fs) at f.width rest (omega arith) ∙ rw (d, joined-high y k) (low x f.width h) in
    more b (reads-from n y (at + f.width) rest k (omega arith))

pub packed-reads : (fs : List Field) (rest : List ℕ) → Fit fs → widths fs % 8 ≡ 0 → Reads (packed fs ++ rest) 0 fs
unfolding packed
packed-reads fs rest k e = reads-from (widths fs / 8) 0 0 rest k (omega arith)
