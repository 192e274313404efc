-- What is read is a setup in range, or refused. Assumes nothing.
use mathlib.Core.Path.{◌≡◌, refl, ap}
use mathlib.Core.Bool.{true}
use mathlib.Core.List.{List}
use Rattle.std.proofs.Common.{Result, Ok, Err}
use Prim.Native.Nat.{ℕ, zero, suc, ◌+◌, ◌≤◌}
use native.Mathlib.Omega.{arith}
use borrow.Author.Tests.{eq-eqb}
use lib.ListN.{length, replicate, take, length-drop}
use lib.Seq.{take_at}
use Rattle.theory.proofs.Tests.{both, and_i, inside, if-cases, unless-cases}
use Rattle.theory.proofs.Bytes.{put_front}
use Rattle.setups.specs.declared.Setup.{Setup}
use Rattle.setups.specs.declared.ReadRefusal.{ReadRefusal}
use Rattle.setups.specs.declared.ReadRefusal.TheVariants.{Malformed}
use Rattle.setups.specs.Bits.{bits_at}
use Rattle.setups.specs.Setup.{most_members, features_size, in_ranges, all, is_count, in_numbers, no_counts, sixteen}
use Rattle.setups.specs.Reading.{members_in, counts_from, setup_at, head_right, is_version1, is_version2, take_version1, take_version2, read_setup}
use Rattle.setups.specs.Claims.{InRange}
use Rattle.setups.proofs.Fields.{bits_below}
use Rattle.setups.proofs.Reading.{version-1-long, version-2-long}

counts-are : (l : List ℕ) (at step n : ℕ) → all is_count (counts_from l at step n) ≡ true
unfolding all counts_from
counts-are l at step zero = refl
counts-are l at step (suc n) =
    and_i _ _ (inside 1 4 (bits_at at 2 l + 1) (omega arith) (omega (arith, bits_below at 2 l))) (counts-are l (at + step) step n)

pub counts-long : (l : List ℕ) (at step n : ℕ) → length (counts_from l at step n) ≡ n
unfolding counts_from
counts-long l at step zero = refl
counts-long l at step (suc n) = ap suc (counts-long l (at + step) step n)

pub take-sixteen : (x : List ℕ) (n : ℕ) → length x ≡ n → n ≤ most_members → take n (sixteen x) ≡ x
unfolding sixteen no_counts
take-sixteen x n e h = rw (put_front x (replicate 16 0) (omega arith)) (take_at x _ n e)

setup-in-range : (l : List ℕ) (at step : ℕ) → head_right l ≡ true → features_size ≤ length l → InRange (setup_at l at step)
unfolding setup_at head_right in_numbers in_ranges
setup-in-range l at step e h =
    let p = both _ _ e in
    let q = both _ _ p.0 in
    let n = bits_at 4 4 l + 1 in
    let m : n ≤ most_members = omega (arith, bits_below 4 4 l) in
    let c = counts_from l at step n in
    let t = take-sixteen c n (counts-long l at step n) m in
    let r = and_i _ _ (and_i _ _ (inside 1 most_members n (omega arith) m) q.1) p.1 in
    record {
      numbers = rw t (and_i _ _ (and_i _ _ r (eq-eqb _ _ (counts-long l at step n))) (counts-are l at step n));
      features = rw length-drop (omega arith);
    }

pub version-1-in-range : (l : List ℕ) → is_version1 l ≡ true → InRange (setup_at l 8 0)
unfolding is_version1
version-1-in-range l t = setup-in-range l 8 0 (both _ _ t).1 (version-1-long l t)

pub version-2-in-range : (l : List ℕ) → is_version2 (members_in l) l ≡ true → InRange (setup_at l 24 2)
unfolding is_version2
version-2-in-range l t = setup-in-range l 24 2 (both _ _ (both _ _ (both _ _ t).0).0).1 (version-2-long l t)

pub read-cases : (P : Result Setup ReadRefusal → Type 0) (l : List ℕ) → P (Err Malformed) → ((s : Setup) → InRange s → P (Ok s)) → P (read_setup l)
unfolding read_setup take_version1 take_version2
read-cases P l x f =
    if-cases P _ _ _
    (λ e. unless-cases P _ _ _ (λ t. x) (λ t. f _ (version-2-in-range l t)))
    (λ e. unless-cases P _ _ _ (λ t. x) (λ t. f _ (version-1-in-range l t)))

pub in-range : (l : List ℕ) (s : Setup) → read_setup l ≡ Ok s → InRange s
in-range l s = read-cases (λ o. o ≡ Ok s → InRange s) l (λ e. cc) (λ x r e. let d : x ≡ s = cc in rw d at r)
