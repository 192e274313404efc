-- Laws of lists that the libraries have not got. Assumes nothing.
use mathlib.Core.Path.{◌≡◌, refl, ap}
use mathlib.Core.List.{List, [], ◌∷◌}
use Prim.Native.Nat.{ℕ, zero, suc, ◌+◌, ◌≤◌}
use native.Mathlib.Nat.{zero-add, suc-add}
use native.Mathlib.Omega.{arith}
use borrow.Author.Tests.{eqb-true, eqb-false, ltb-true, ltb-false}
use lib.Dec.{eqb, ltb}
use lib.ListN.{length, get_or, take, drop, set, replicate}
use lib.Seq.{set_out, get_or-set_same, get_or-set_other}
use Rattle.theory.proofs.Tests.{by_cases}

module _ {A : Type 0} where
  -- a list of no elements
  pub length-zero : (l : List A) → length l ≡ 0 → l ≡ []
  length-zero [] e = refl
  length-zero (x ∷ l) e = absurd (omega arith)

  -- an element over and over: it is read everywhere, past the end too
  pub get_or-same : (n i : ℕ) (a : A) → get_or (replicate n a) i a ≡ a
  get_or-same zero i a = refl
  get_or-same (suc n) zero a = refl
  get_or-same (suc n) (suc i) a = get_or-same n i a

  -- fewer of them
  pub take-replicate : (n k : ℕ) (a : A) → n ≤ k → take n (replicate k a) ≡ replicate n a
  take-replicate zero k a h = refl
  take-replicate (suc n) zero a h = absurd (omega arith)
  take-replicate (suc n) (suc k) a h = ap (a ∷◌) (take-replicate n k a (omega arith))

  pub drop-replicate : (k n : ℕ) (a : A) → drop k (replicate (k + n) a) ≡ replicate n a
  drop-replicate zero n a = rw zero-add
  drop-replicate (suc k) n a = rw suc-add (drop-replicate k n a)

-- what is read at j, after x is stored at i
pub set_cases : (P : ℕ → Type 0) (l : List ℕ) (i x j : ℕ) → P (get_or l j 0) → (j ≡ i → P x) → P (get_or (set l i x) j 0)
set_cases P l i x j h f =
    by_cases (eqb j i)
    (λ e.
    let same : j ≡ i = eqb-true j i e in
    by_cases (ltb i (length l))
    (λ b. rw (same, get_or-set_same l i x 0 (ltb-true i (length l) b)) (f same))
    (λ b. rw (set_out l i x (ltb-false i (length l) b)) h))
    (λ e. rw (get_or-set_other l i j x 0 (eqb-false j i e)) h)
