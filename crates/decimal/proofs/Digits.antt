-- The laws of `decimal` and `line`. The bound of `digits` is gone after the first three. Assumes nothing.
use mathlib.Core.Path.{◌≡◌, refl, sym, ◌∙◌, ap}
use mathlib.Core.List.{List, [], ◌∷◌, ◌++◌}
use Prim.Native.Nat.{ℕ, zero, suc, ◌+◌, ◌/◌, ◌^◌, ◌≤◌, ◌<◌}
use native.Mathlib.Nat.{le_refl, pow-suc}
use native.Mathlib.Omega.{arith}
use mir.Syntax.{w64}
use mir.Val.{Fits}
use lib.Dec.{ltb, leb}
use lib.ListN.{length, length-append, length-set, set}
use borrow.Author.Tests.{lt-ltb, le-ltb, ltb-true, ltb-false, leb-true, leb-false}
use Rattle.theory.specs.Logic.{when◌then◌else◌}
use Rattle.theory.specs.Bytes.{put}
use Rattle.theory.proofs.Bytes.{put-cons, put-append, length-put, put_one}
use Rattle.theory.proofs.Tests.{by_cases}
use Rattle.decimal.specs.Decimal.{last_digit, digits, decimal, line}

-- with a bound that is large enough, one more changes nothing
one_more : (f n : ℕ) → n ≤ f → digits (suc f) n ≡ digits f n
unfolding digits when◌then◌else◌
one_more zero zero h = refl
one_more zero (suc n) h = absurd (omega arith)
one_more (suc f) n h = rw (one_more f (n / 10) (omega arith))

large-enough : (f n : ℕ) → n ≤ f → digits f n ≡ decimal n
unfolding decimal
large-enough zero zero h = refl
large-enough zero (suc n) h = absurd (omega arith)
large-enough (suc f) n h =
    by_cases (leb n f) (λ q. let l : n ≤ f = leb-true n f q in one_more f n l ∙ large-enough f n l)
    (λ q. let l : f < n = leb-false n f q in let e : suc f ≡ n = omega arith in rw e)

-- one digit, and the digits of the tenth part with one more
pub decimal-one : (n : ℕ) → n < 10 → decimal n ≡ last_digit n ∷ []
unfolding decimal digits when◌then◌else◌
decimal-one n h = sym (one_more n n (le_refl n)) ∙ rw (lt-ltb n 10 h)

pub decimal-more : (n : ℕ) → 10 ≤ n → decimal n ≡ decimal (n / 10) ++ (last_digit n ∷ [])
unfolding digits when◌then◌else◌
decimal-more n h =
    sym (large-enough (suc n) n (omega arith)) ∙ rw (le-ltb n 10 h, large-enough n (n / 10) (omega arith))

-- ---- how long they are ----

pub length-one : (n : ℕ) → n < 10 → length (decimal n) ≡ 1
length-one n h = ap length (decimal-one n h)

pub length_more : (n : ℕ) → 10 ≤ n → length (decimal n) ≡ length (decimal (n / 10)) + 1
length_more n h = ap length (decimal-more n h) ∙ simp length-append

pub decimal-fits : (k n : ℕ) → n < 10 ^ suc k → length (decimal n) ≤ suc k
decimal-fits zero n h = omega (arith, length-one n (omega arith))
decimal-fits (suc k) n h =
    let p = pow-suc 10 (suc k) in
    by_cases (ltb n 10) (λ q. let l : n < 10 = ltb-true n 10 q in omega (arith, length-one n l))
    (λ q. let l : 10 ≤ n = ltb-false n 10 q in omega (arith, length_more n l, decimal-fits k (n / 10) (omega arith)))

pub length-line : (name : List ℕ) (n : ℕ) → length (line name n) ≡ length name + length (decimal n) + 2
unfolding line
length-line name n = simp length-append (omega arith)

pub line-short : (name : List ℕ) (n : ℕ) → n < 2 ^ 64 → length (line name n) ≤ length name + 22
line-short name n h = omega (arith, length-line name n, decimal-fits 19 n (omega arith))

-- ---- what the code puts ----

-- the digits of n at `at`; h: they fit
module _ (at n : ℕ) (out : List ℕ) (h : at + length (decimal n) ≤ length out) where
  module _ (small : n < 10) where
    pub one-room : at < length out
    one-room = omega (arith, length-one n small)

    pub one_end : at + 1 ≡ at + length (decimal n)
    one_end = omega (arith, length-one n small)

    pub one-put : (d : ℕ) → d ≡ last_digit n → set out at d ≡ put at (decimal n) out
    one-put d e = rw (decimal-one n small, e) (sym (put_one at (last_digit n) out))

  module _ (large : 10 ≤ n) where
    pub tens-less : n / 10 < n
    tens-less = omega arith

    pub tens-room : at + length (decimal (n / 10)) ≤ length out
    tens-room = omega (arith, length_more n large)

    -- the tenth part was put, up to `next`
    module _ (tens : List ℕ) (next : ℕ) (e : tens ≡ put at (decimal (n / 10)) out) (f : next ≡ at + length (decimal (n / 10))) where
      pub last-room : next < length tens
      last-room = rw (e, length-put) (omega (arith, length_more n large))

      pub last_fits : length out < 2 ^ 64 → Fits w64 (next + 1)
      last_fits l = record { fits = omega (arith, length_more n large) }

      pub last_end : next + 1 ≡ at + length (decimal n)
      last_end = omega (arith, length_more n large)

      pub last-put : (d : ℕ) → d ≡ last_digit n → set tens next d ≡ put at (decimal n) out
      last-put d g =
          rw (decimal-more n large, put-append, e, f, g)
          (sym (put_one (at + length (decimal (n / 10))) (last_digit n) (put at (decimal (n / 10)) out)))

-- a line: the name is put, then a space, the number, a line feed
pub line-name : (at n : ℕ) (name out : List ℕ) → at + length (line name n) ≤ length out → at + length name ≤ length out
line-name at n name out h = omega (arith, length-line name n)

module _ (at n : ℕ) (name out named : List ℕ) (h : at + length (line name n) ≤ length out) (e : named ≡ put at name out) where
  pub line-space : at + length name < length named
  line-space = rw (e, length-put) (omega (arith, length-line name n))

  spaced-long : length (set named (at + length name) 32) ≡ length out
  spaced-long = length-set named (at + length name) 32 ∙ rw e (length-put at name out)

  pub line-number : at + length name + 1 + length (decimal n) ≤ length (set named (at + length name) 32)
  line-number = rw spaced-long (omega (arith, length-line name n))

  module _ (end : ℕ) (numbered : List ℕ) (f : numbered ≡ put (at + length name + 1) (decimal n) (set named (at + length name) 32))
      (g : end ≡ at + length name + 1 + length (decimal n)) where
    pub line-feed : end < length numbered
    line-feed = rw (f, length-put, spaced-long) (omega (arith, length-line name n))

    pub line_same : length (set numbered end 10) ≡ length out
    line_same = length-set numbered end 10 ∙ rw (f, length-put, spaced-long)

    pub line-put : set numbered end 10 ≡ put at (line name n) out
    unfolding line
    line-put =
        let z : suc (at + length name) ≡ at + length name + 1 = omega arith in
        sym (put_one end 10 numbered) ∙ sym (rw (put-append, put-cons, z, put-append, ← e, ← f, ← g))

    pub line-fits : length out < 2 ^ 64 → Fits w64 (end + 1)
    line-fits l = record { fits = omega (arith, length-line name n) }

    pub line-end : end + 1 ≡ at + length (line name n)
    line-end = omega (arith, length-line name n)
