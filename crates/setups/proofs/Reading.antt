-- Laws of the readers: queue counts, and the returns. Assumes nothing.
use mathlib.Core.Path.{◌≡◌, sym, ◌∙◌}
use mathlib.Core.Bool.{Bool, true}
use mathlib.Core.List.{List}
use Prim.Native.Nat.{ℕ, suc, ◌+◌, ◌-◌, ◌≤◌, ◌<◌}
use native.Mathlib.Nat.{sub-zero}
use native.Mathlib.Omega.{arith}
use lib.ListN.{length, set, drop, replicate, length-drop}
use Rattle.theory.specs.Bytes.{bytes_at, put}
use Rattle.theory.proofs.Bytes.{put-nil, put-cons, put_all}
use Rattle.theory.proofs.Tests.{both, tests}
use Rattle.theory.proofs.Lent.{tail-is}
use Rattle.setups.specs.Bits.{bits_at}
use Rattle.setups.specs.Setup.{features_size, no_counts, sixteen}
use Rattle.setups.specs.Reading.{members_in, counts_from, setup_at, is_version1, is_version2}

-- ---- the queue counts ----

module _ (l : List ℕ) (from step n : ℕ) where
  pub counts_start : sixteen (counts_from l from step n) ≡ put 0 (counts_from l from step (n - 0)) (replicate 16 0)
  unfolding sixteen no_counts
  counts_start = rw sub-zero

  -- i counts are stored in c, and the next stands at `at`
  module _ (c : List ℕ) (at i : ℕ) (w : sixteen (counts_from l from step n) ≡ put i (counts_from l at step (n - i)) c) where
    pub counts-on : (q : ℕ) → i < n → q ≡ bits_at at 2 l
        → sixteen (counts_from l from step n) ≡ put (i + 1) (counts_from l (at + step) step (n - (i + 1))) (set c i (q + 1))
    unfolding counts_from
    counts-on q h e =
        let a : n - i ≡ suc (n - (i + 1)) = omega arith in
        let b : i + 1 ≡ suc i = omega arith in
        w ∙ rw (a, put-cons, b, e)

    pub counts_end : n ≤ i → c ≡ sixteen (counts_from l from step n)
    unfolding counts_from
    counts_end h = let a : n - i ≡ 0 = omega arith in sym (w ∙ rw a (put-nil i c))

-- ---- a setup ----

-- the last 16 bytes, copied into z
features-copied : (l z : List ℕ) (at : ℕ) → at ≡ length l - features_size → features_size ≤ length l → length z ≡ features_size
    → put 0 (bytes_at at (length l - at) l) z ≡ drop (length l - features_size) l
features-copied l z at e h k =
    let n : length (drop at l) ≡ length z = rw length-drop (omega arith) in
    rw (tail-is at l, put_all (drop at l) z n, e)

pub setup-read : (l z q f : List ℕ) (from step n g s : ℕ) → features_size ≤ length l → length z ≡ features_size
    → n ≡ bits_at 4 4 l → q ≡ sixteen (counts_from l from step (n + 1))
    → f ≡ put 0 (bytes_at (length l - 16) (length l - (length l - 16)) l) z → g ≡ bits_at 10 4 l → s ≡ bits_at 14 4 l
    → record { members = n + 1; queues = q; gets = g; sets = s; features = f } ≡ setup_at l from step
unfolding setup_at
setup-read l z q f from step n g s h k e₁ e₂ e₃ e₄ e₅ =
    rw (e₂, e₃, e₁, e₄, e₅, features-copied l z (length l - 16) (omega arith) h k)

-- ---- the returns ----

-- what is taken is long enough to hold the features
pub version-1-long : (l : List ℕ) → is_version1 l ≡ true → features_size ≤ length l
unfolding is_version1
version-1-long l e = let h = (both _ _ (both _ _ e).0).1 in omega tests

pub version-2-long : (l : List ℕ) → is_version2 (members_in l) l ≡ true → features_size ≤ length l
unfolding is_version2
version-2-long l e = let h = (both _ _ (both _ _ (both _ _ e).0).0).0 in omega tests

-- tested with the members that were read
pub version-2-is : (l : List ℕ) (t : Bool) (n : ℕ) → t ≡ is_version2 (n + 1) l → n ≡ bits_at 4 4 l → t ≡ is_version2 (members_in l) l
version-2-is l t n e f = rw f at e
