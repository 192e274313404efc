-- The digits of a number are its decimal digits: an induction over the tenth part. Assumes nothing.
use mathlib.Core.Path.{◌≡◌, refl}
use mathlib.Core.Bool.{true}
use mathlib.Core.List.{List, [], ◌∷◌, ◌++◌}
use Prim.Native.Nat.{ℕ, zero, suc, ◌+◌, ◌-◌, ◌*◌, ◌/◌, ◌≤◌, ◌<◌}
use native.Mathlib.Nat.{le_refl}
use native.Mathlib.Omega.{arith}
use borrow.Author.Tests.{ltb-true, ltb-false}
use lib.Dec.{ltb}
use lib.ListN.{length, get_or}
use Rattle.theory.specs.Logic.{within}
use Rattle.theory.proofs.Tests.{by_cases, and_i, both, inside}
use Rattle.decimal.specs.Decimal.{last_digit, decimal}
use Rattle.decimal.proofs.Digits.{decimal-one, decimal-more, length-one, length_more}
use Rattle.figures.specs.Numbers.{are_digits, value_from, Exact, ExactNumbers}

last-is-digit : (n : ℕ) → within 48 57 (last_digit n) ≡ true
last-is-digit n = inside 48 57 (last_digit n) (omega arith) (omega arith)

-- one digit behind others
digits_more : (ds : List ℕ) (n : ℕ) → are_digits ds ≡ true → are_digits (ds ++ (last_digit n ∷ [])) ≡ true
unfolding are_digits
digits_more [] n h = and_i _ _ (last-is-digit n) refl
digits_more (d ∷ ds) n h = let p = both _ _ h in and_i _ _ p.0 (digits_more ds n p.1)

value-more : (ds : List ℕ) (m d : ℕ) → value_from m (ds ++ (d ∷ [])) ≡ 10 * value_from m ds + (d - 48)
unfolding value_from
value-more [] m d = refl
value-more (e ∷ ds) m d = value-more ds (10 * m + (e - 48)) d

first-same : (ds : List ℕ) (d : ℕ) → 0 < length ds → get_or (ds ++ (d ∷ [])) 0 0 ≡ get_or ds 0 0
first-same [] d h = absurd (omega arith)
first-same (e ∷ ds) d h = refl

exact_one : (n : ℕ) → n < 10 → Exact n
unfolding are_digits value_from
exact_one n h = record {
  digits = rw (decimal-one n h) (and_i _ _ (last-is-digit n) refl);
  value = rw (decimal-one n h) (omega arith);
  leading = λ k. rw (decimal-one n h) (omega arith);
}

some-digits : (n : ℕ) → 0 < length (decimal n)
some-digits n =
    by_cases (ltb n 10) (λ e. let h : n < 10 = ltb-true _ _ e in omega (arith, length-one n h))
    (λ e. let h : 10 ≤ n = ltb-false _ _ e in omega (arith, length_more n h))

exact-more : (n : ℕ) → 10 ≤ n → Exact (n / 10) → Exact n
exact-more n h x = record {
  digits = rw (decimal-more n h) (digits_more (decimal (n / 10)) n x.digits);
  value = rw (decimal-more n h, value-more (decimal (n / 10)) 0 (last_digit n), x.value) (omega arith);
  leading = λ k.
      rw (decimal-more n h, first-same (decimal (n / 10)) (last_digit n) (some-digits (n / 10))) (x.leading (omega arith));
}

exact-up-to : (f n : ℕ) → n ≤ f → Exact n
exact-up-to zero n h = exact_one n (omega arith)
exact-up-to (suc f) n h =
    by_cases (ltb n 10) (λ e. exact_one n (ltb-true _ _ e))
    (λ e. let k : 10 ≤ n = ltb-false _ _ e in exact-more n k (exact-up-to f (n / 10) (omega arith)))

pub exact-numbers : ExactNumbers
exact-numbers n = exact-up-to n n (le_refl n)
