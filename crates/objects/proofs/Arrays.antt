-- Arrays within a struct, and a loop that fills an array with what a function makes of each element of another. Assumes
-- nothing.
use mathlib.Core.Path.{◌≡◌, sym, ◌∙◌}
use mathlib.Core.List.{List, map}
use Prim.Native.Nat.{ℕ, ◌+◌, ◌≤◌, ◌<◌}
use native.Mathlib.Numerals.{add-one}
use native.Mathlib.Omega.{arith}
use lib.ListN.{length, get_or, take, set, length-map, get_or-map}
use lib.Seq.{take-suc, take-suc-set, take_all}

-- a field of n structs has n elements: what is known is the length of their values in the machine
pub unmapped : {A B : Type 0} (f : A → B) (xs : List A) (n : ℕ) → length (map f xs) ≡ n → length xs ≡ n
unmapped f xs n e = sym (length-map xs f) ∙ e

-- the first i elements of d are made
module _ {A B : Type 0} (f : A → B) (xs : List A) (d : List B) (i : ℕ) (n : ℕ) (e : take i d ≡ take i (map f xs)) (l : length d ≡ n) (k : length xs ≡ n) where
  pub filled_on : (z : A) (x : B) → x ≡ f (get_or xs i z) → i < n → take (i + 1) (set d i x) ≡ take (i + 1) (map f xs)
  filled_on z x q h =
      let a : i < length d = omega arith in
      let b : i < length (map f xs) = rw length-map (omega arith) in
      rw (add-one, take-suc-set d i x a, take-suc (map f xs) i (f z) b, get_or-map f xs i z, q, e)

  pub filled : n ≤ i → d ≡ map f xs
  filled h =
      let a : length d ≤ i = omega arith in
      let b : length (map f xs) ≤ i = rw length-map (omega arith) in
      sym (take_all i d a) ∙ e ∙ take_all i (map f xs) b
