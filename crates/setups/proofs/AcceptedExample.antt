-- The hypotheses of the claims on what is written and read can be met, in each version. Assumes nothing.
use mathlib.Core.Path.{◌≡◌, refl}
use mathlib.Core.List.{[], ◌∷◌, ◌++◌}
use Prim.Native.Nat.{ℕ, ◌≤◌, ◌<◌}
use native.Mathlib.Omega.{arith}
use borrow.Author.Tests.{ltb-true}
use lib.Dec.{ltb}
use lib.ListN.{length, get_or, replicate, get_or-eq_default}
use Rattle.theory.proofs.Tests.{by_cases, tests}
use Rattle.theory.specs.Logic.{◌and◌}
use Rattle.theory.specs.Bytes.{put}
use Rattle.setups.specs.Bits.{bit, bits_at}
use Rattle.setups.specs.Setup.{all, no_counts, sixteen, setup_with}
use Rattle.setups.specs.Writing.{written}
use Rattle.setups.specs.Accepted.{GoodSetup, EqualCounts, Packed1, Packed2}
use Rattle.setups.specs.Examples.{zeros, features, bench, five}
use Rattle.setups.proofs.Ranges.{all-at}
use Rattle.setups.proofs.Accepted.{writes}
use Rattle.setups.proofs.Claims.{claims}
use Rattle.setups.proofs.Examples.{read-five}

-- ---- written ----

one-queue : GoodSetup 1 (1 ∷ []) 1 1 zeros
one-queue = record {
  some = omega arith;
  few = omega arith;
  each = refl;
  few_gets = omega arith;
  few_sets = omega arith;
  long = refl;
  least = λ i h. let e : i ≡ 0 = omega arith in rw e (omega arith);
  most = λ i h. let e : i ≡ 0 = omega arith in rw e (omega arith);
}

equal : EqualCounts (1 ∷ [])
equal i h = let e : i ≡ 0 = omega arith in rw e

is-written : (written (replicate 19 0) 1 (1 ∷ []) 1 1 zeros).0 ≡ 19
is-written = (writes (replicate 19 0) 1 (1 ∷ []) 1 1 zeros).version1 one-queue equal (omega arith)

differ : EqualCounts (1 ∷ 2 ∷ 3 ∷ 4 ∷ 4 ∷ []) → ⊥
differ e = let h : ◌≡◌ {A = ℕ} 2 1 = e 1 (omega arith) in omega arith

-- ---- read ----

bench-packed : Packed1 bench
unfolding bit bits_at
bench-packed = record { version = refl; long = refl; few_gets = omega arith; few_sets = omega arith; zeros = refl }

five-packed : Packed2 5 five
unfolding bit bits_at
five-packed = record {
  version = refl;
  members = refl;
  long = refl;
  no_count = refl;
  few_gets = omega arith;
  few_sets = omega arith;
  zeros = refl;
  padding = refl;
}

-- ---- written back ----

five-bytes : (i : ℕ) → get_or five i 0 < 256
unfolding all ◌and◌
five-bytes i =
    by_cases (ltb i 21) (λ h. ltb-true _ 256 (all-at (λ (x : ℕ). ltb x 256) five i refl (ltb-true i 21 h)))
    (λ h. let k : length five ≤ i = omega tests in rw (get_or-eq_default five 0 k) (omega arith))

five-back : written (replicate 21 0) 5 (1 ∷ 2 ∷ 3 ∷ 4 ∷ 4 ∷ []) 8 5 features ≡ (21, five ++ [])
unfolding put no_counts sixteen
five-back =
    claims.written_back five (replicate 21 0) five-bytes (omega arith)
    (setup_with 5 (1 ∷ 2 ∷ 3 ∷ 4 ∷ 4 ∷ []) 8 5 features) read-five (λ v. differ)
