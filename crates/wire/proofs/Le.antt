-- The laws of `le`, `bytes` and `number`, each once, over the width. Assumes nothing.
use mathlib.Core.Path.{◌≡◌, refl, ap, sym, ◌∙◌}
use mathlib.Core.List.{List, [], ◌∷◌, ◌++◌}
use Prim.Native.Nat.{ℕ, zero, suc, ◌+◌, ◌*◌, ◌/◌, ◌%◌, ◌^◌, ◌≤◌, ◌<◌}
use native.Mathlib.Nat.{zero-add, add-zero, suc-add, pow-succ'}
use native.Mathlib.Numerals.{add-one}
use native.Mathlib.Omega.{arith}
use lib.ListN.{length, get_or, take, drop}
use lib.Seq.{take-nil, drop-nil}
use Rattle.theory.specs.Bytes.{put}
use Rattle.theory.proofs.Bytes.{bytes_at-before, bytes_at-put-as}
use Rattle.wire.specs.Le.{le, bytes, number}

-- ---- the bytes of a number ----

pub length-bytes : (n x : ℕ) → length (bytes n x) ≡ n
unfolding bytes
length-bytes zero x = refl
length-bytes (suc n) x = ap suc (length-bytes n (x / 256))

pub le_bytes : (n x : ℕ) → x < 256 ^ n → le (bytes n x) ≡ x
unfolding bytes le
le_bytes zero x h = omega arith
le_bytes (suc n) x h = rw (le_bytes n (x / 256) (let k = rw pow-succ' at h in omega arith)) (omega arith)

-- a number over another: the low bytes, then the high ones
pub bytes-append : (n m x y : ℕ) → x < 256 ^ n → bytes (n + m) (x + 256 ^ n * y) ≡ bytes n x ++ bytes m y
unfolding bytes
bytes-append zero m x y h =
    let e : x + 256 ^ 0 * y ≡ y = omega arith in
    rw (e, zero-add)
bytes-append (suc n) m x y h =
    let p : 256 ^ suc n * y ≡ 256 * (256 ^ n * y) = rw pow-succ' (omega arith) in
    let low : (x + 256 ^ suc n * y) % 256 ≡ x % 256 = omega arith in
    let high : (x + 256 ^ suc n * y) / 256 ≡ x / 256 + 256 ^ n * y = omega arith in
    let k : x / 256 < 256 ^ n = (let l = rw pow-succ' at h in omega arith) in
    rw (suc-add, low, high) (ap (x % 256 ∷◌) (bytes-append n m (x / 256) y k))

pub take-bytes : (k n x : ℕ) → k ≤ n → take k (bytes n x) ≡ bytes k x
unfolding bytes
take-bytes zero n x h = refl
take-bytes (suc k) zero x h = absurd (omega arith)
take-bytes (suc k) (suc n) x h = ap (x % 256 ∷◌) (take-bytes k n (x / 256) (omega arith))

-- ---- the number at a place; a byte past the end counts as 0 ----

pub number-none : (at : ℕ) (l : List ℕ) → number at 0 l ≡ 0
unfolding number le
number-none at l = refl

pub number_step : (at n : ℕ) (l : List ℕ) → number at (suc n) l ≡ get_or l at 0 + 256 * number (at + 1) n l
unfolding number le
number_step at n [] = rw (drop-nil at, drop-nil (at + 1), take-nil n)
number_step zero n (x ∷ l) = refl
number_step (suc at) n (x ∷ l) = number_step at n l ∙ rw (add-one, add-one)

pub number-byte : (at : ℕ) (l : List ℕ) → number at 1 l ≡ get_or l at 0
number-byte at l = number_step at 0 l ∙ rw number-none (omega arith)

-- the number of some bytes, and above it that of those after them
pub number_append : (at n m : ℕ) (l : List ℕ) → number at (n + m) l ≡ number at n l + 256 ^ n * number (at + n) m l
number_append at zero m l = rw (zero-add, number-none, add-zero) (omega arith)
number_append at (suc n) m l =
    let e : at + 1 + n ≡ at + suc n = omega arith in
    rw (suc-add, number_step at (n + m) l, number_append (at + 1) n m l, number_step at n l, pow-succ', e) (omega arith)

-- of bytes, each below 256
pub number-below : (l : List ℕ) → ((i : ℕ) → get_or l i 0 < 256) → (n at : ℕ) → number at n l < 256 ^ n
number-below l small zero at = rw number-none (omega arith)
number-below l small (suc n) at = rw (number_step, pow-succ') (omega (arith, small at, number-below l small n (at + 1)))

-- bytes that read alike, of which the number takes only the first k
module _ (k : ℕ) (a d : List ℕ) (f : (i : ℕ) → i < k → get_or a i 0 ≡ get_or d i 0) where
  pub number-alike : (n at : ℕ) → at + n ≤ k → number at n a ≡ number at n d
  number-alike zero at h = number-none at a ∙ sym (number-none at d)
  number-alike (suc n) at h =
      number_step at n a ∙ rw (f at (omega arith), number-alike n (at + 1) (omega arith)) (sym (number_step at n d))

-- ---- all bytes as one number, where one past the end counts as 0 ----

-- from a place on: the byte there, then those after it
pub le_step : (l : List ℕ) (at : ℕ) → le (drop at l) ≡ get_or l at 0 + 256 * le (drop (at + 1) l)
unfolding le
le_step [] at = rw (drop-nil at, drop-nil (at + 1))
le_step (b ∷ l) zero = refl
le_step (b ∷ l) (suc at) = le_step l at ∙ rw (add-one, add-one)

-- the first n, then those after them
pub le_split : (n : ℕ) (l : List ℕ) → le l ≡ number 0 n l + 256 ^ n * le (drop n l)
unfolding le number
le_split zero l = omega arith
le_split (suc n) [] = omega arith
le_split (suc n) (b ∷ l) = rw pow-succ' (omega (arith, le_split n l))

pub le-alike : (a d : List ℕ) → ((i : ℕ) → get_or a i 0 ≡ get_or d i 0) → le a ≡ le d
unfolding le
le-alike [] [] f = refl
le-alike [] (y ∷ d) f = rw (← f 0, ← le-alike [] d (λ i. f (suc i)))
le-alike (x ∷ a) [] f = rw (f 0, le-alike a [] (λ i. f (suc i)))
le-alike (x ∷ a) (y ∷ d) f = rw (f 0, le-alike a d (λ i. f (suc i)))

-- ---- the number at a place where something was put ----

pub number-before : (at n i : ℕ) (x l : List ℕ) → at + n ≤ i → number at n (put i x l) ≡ number at n l
unfolding number
number-before at n i x l h = ap le (bytes_at-before at n i x l h)

pub number_put : (at n x : ℕ) (l : List ℕ) → at + n ≤ length l → x < 256 ^ n → number at n (put at (bytes n x) l) ≡ x
unfolding number
number_put at n x l h k = ap le (bytes_at-put-as at n (bytes n x) l (length-bytes n x) h) ∙ le_bytes n x k
