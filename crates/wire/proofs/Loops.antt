-- What the loops of this crate keep, and one law for each place where a proof asks it. Assumes nothing.
use mathlib.Core.Path.{◌≡◌, sym, ap, ◌∙◌}
use mathlib.Core.Bool.{Bool, true, ◌&&◌}
use mathlib.Core.List.{List, reverse}
use Prim.Native.Nat.{ℕ, zero, suc, ◌+◌, ◌-◌, ◌*◌, ◌/◌, ◌%◌, ◌^◌, ◌≤◌, ◌<◌}
use native.Mathlib.Nat.{add-zero, sub-zero, zero-add, pow-succ', pow-le-pow_right}
use native.Mathlib.Numerals.{add-one}
use native.Mathlib.Omega.{arith}
use lib.Dec.{eqb}
use lib.ListN.{length, get_or, drop, set}
use Rattle.std.proofs.lemmas.List.{length-reverse, get_or-reverse, get_or_read}
use lib.Seq.{take-take, drop-drop}
use borrow.Rule.Slice.PartMut.{put_mid}
use Rattle.std.specs.Int.{byte_worth, sum_through}
use Rattle.theory.specs.Logic.{◌and◌}
use Rattle.theory.specs.Bytes.{bytes_at, put, same}
use Rattle.theory.proofs.Tests.{and_assoc, and-true, true-and, and-bits, same_step, same-end}
use Rattle.theory.proofs.Bytes.{put-nil, put-cons, put-eq, put_all, length-bytes_at, get_or-bytes_at}
use Rattle.wire.specs.Le.{le, bytes, number}
use Rattle.wire.proofs.Le.{number-none, number_step, number-byte, number_append, length-bytes}

-- ---- the library's number of so many bytes ----

pub worth_sum : (l : List ℕ) (k : ℕ) → sum_through (λ i. byte_worth i (get_or l i 0)) k ≡ number 0 (suc k) l
worth_sum l zero = sym (number-byte 0 l)
worth_sum l (suc k) =
    let e : number 0 (suc k + 1) l ≡ number 0 (suc k) l + 256 ^ suc k * get_or l (suc k) 0 =
    rw (number_append 0 (suc k) 1 l, zero-add, number-byte (suc k) l) in
    let f : number 0 (suc (suc k)) l ≡ number 0 (suc k + 1) l = rw add-one in
    omega (arith, worth_sum l k, e, f)

-- of bytes that were read at a place
pub worth-at : (l p : List ℕ) (at k : ℕ) → p ≡ bytes_at at (suc k) l → sum_through (λ i. byte_worth i (get_or p i 0)) k ≡ number at (suc k) l
unfolding number
worth-at l p at k e = worth_sum p k ∙ rw e (ap le (take-take (suc k) (suc k) (drop at l) (omega arith)))

-- ---- reading: the bytes from i on are in r ----

pub record Reading (s : List ℕ) (at n r i : ℕ) : Type 0 where
  pub count : i ≤ n
  pub value : r ≡ number (at + i) (n - i) s
  pub bound : r < 256 ^ (n - i)

pub reading-start : (s : List ℕ) (at n : ℕ) → Reading s at n 0 n
reading-start s at n =
    let e : n - n ≡ 0 = omega arith in
    record { count = omega arith; value = rw e (sym (number-none (at + n) s)); bound = rw e (omega arith) }

module _ (s : List ℕ) (at n r i : ℕ) (h : Reading s at n r i) (k : 0 < i) where
  pub reading-fits : n ≤ 8 → r < 256 ^ 7
  reading-fits l =
      let m : n - i ≤ 7 = omega arith in
      omega (arith, h.bound, pow-le-pow_right {n = 256} (omega arith) m)

  pub reading-on : (b : ℕ) → b ≡ number (at + (i - 1)) 1 s → b < 256 → Reading s at n (r * 256 + b) (i - 1)
  reading-on b e l =
      let a : n - (i - 1) ≡ suc (n - i) = omega arith in
      let f : at + (i - 1) + 1 ≡ at + i = omega arith in
      record {
        count = omega (arith, h.count);
        value = rw (a, number_step (at + (i - 1)) (n - i) s, f) (omega (arith, h.value, e, number-byte (at + (i - 1)) s));
        bound = rw (a, pow-succ') (omega (arith, h.bound));
      }

-- the byte that comes after k others, from the back
module _ (s : List ℕ) (at n r k b : ℕ) (h : Reading s at n r (n - k)) (l : at + n ≤ length s)
    (e : (k < length (reverse (bytes_at at n s))) × (b ≡ get_or (reverse (bytes_at at n s)) k b)) where
  reading-more : k < n
  reading-more = omega (arith, e.0, length-reverse (bytes_at at n s), length-bytes_at at n s l)

  reading-byte : b ≡ get_or s (at + (n - k - 1)) 0
  reading-byte =
      let p = bytes_at at n s in
      let m = length-bytes_at at n s l in
      let i : k < length p = omega (arith, reading-more) in
      let j : n - 1 - k ≡ n - k - 1 = omega arith in
      get_or_read (reverse p) k b e.0 e.1 0 ∙ get_or-reverse p k 0 i ∙ rw (m, j) (get_or-bytes_at at n (n - k - 1) s (omega (arith, reading-more)))

  pub reading-room : n ≤ 8 → r < 256 ^ 7
  reading-room m = reading-fits s at n r (n - k) h (omega (arith, reading-more)) m

  module _ (small : (i : ℕ) → get_or s i 0 < 256) where
    pub reading-small : b < 256
    reading-small = rw reading-byte (small (at + (n - k - 1)))

    pub reading-turn : Reading s at n (r * 256 + b) (n - (k + 1))
    reading-turn =
        let f : n - (k + 1) ≡ n - k - 1 = omega arith in
        rw f (reading-on s at n r (n - k) h (omega (arith, reading-more)) b
        (reading-byte ∙ sym (number-byte (at + (n - k - 1)) s)) reading-small)

pub reading-end : (s : List ℕ) (at n r i : ℕ) → Reading s at n r i → i ≤ 0 → (r ≡ number at n s) × (r < 256 ^ n)
reading-end s at n r i h k =
    let e : i ≡ 0 = omega arith in
    (rw (e, sub-zero, add-zero) at h.value, rw (e, sub-zero) at h.bound)

-- ---- writing a part ----

-- a part that became x
pub put_part : (at n : ℕ) (s x : List ℕ) → length x ≡ n → at + n ≤ length s → put_mid at n s x ≡ put at x s
put_part at n s x e h = rw (put-eq at x s (omega arith), e, drop-drop)

-- what is left of x is v, and its bytes go to i and on
module _ (s₀ s : List ℕ) (n x v i : ℕ) (e : put 0 (bytes n x) s₀ ≡ put i (bytes (n - i) v) s) where
  pub writes-on : i < n → put 0 (bytes n x) s₀ ≡ put (i + 1) (bytes (n - (i + 1)) (v / 256)) (set s i (v % 256))
  unfolding bytes
  writes-on h =
      let a : n - i ≡ suc (n - (i + 1)) = omega arith in
      e ∙ rw (a, put-cons i (v % 256) (bytes (n - (i + 1)) (v / 256)) s, add-one)

  pub written : n ≤ i → length s₀ ≡ n → s ≡ bytes n x
  unfolding bytes
  written h l =
      let a : n - i ≡ 0 = omega arith in
      sym (e ∙ rw a (put-nil i s)) ∙ put_all (bytes n x) s₀ (length-bytes n x ∙ sym l)

pub writes_start : (s : List ℕ) (n x : ℕ) → put 0 (bytes n x) s ≡ put 0 (bytes (n - 0) x) s
writes_start s n x = rw sub-zero

-- ---- comparing: the bytes before i are alike or not, and the rest decides ----

pub compares-start : (a b : List ℕ) → same a b ≡ true and same (drop 0 a) (drop 0 b)
compares-start a b = sym (true-and (same a b))

module _ (a b : List ℕ) (alike : Bool) (i : ℕ) (l : length a ≡ length b) (e : same a b ≡ alike and same (drop i a) (drop i b)) where
  pub compares-on : (r : Bool) → i < length a → r ≡ alike && eqb (get_or a i 0) (get_or b i 0) → same a b ≡ r and same (drop (i + 1) a) (drop (i + 1) b)
  compares-on r h k =
      let q : r ≡ alike and eqb (get_or a i 0) (get_or b i 0) = k ∙ and-bits alike (eqb (get_or a i 0) (get_or b i 0)) in
      e ∙ rw (same_step a b i l h, q) (sym (and_assoc alike (eqb (get_or a i 0) (get_or b i 0)) (same (drop (i + 1) a) (drop (i + 1) b))))

  pub compared : length a ≤ i → alike ≡ same a b
  compared h = sym (e ∙ rw (same-end a b i l h) (and-true alike))
