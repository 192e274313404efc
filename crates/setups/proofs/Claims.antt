-- The claims hold. Assumes nothing.
use mathlib.Core.Path.{◌≡◌, refl, ap, sym}
use mathlib.Core.List.{List}
use Rattle.std.proofs.Common.{Ok, Err}
use Prim.Native.Nat.{ℕ, ◌≤◌}
use native.Mathlib.Omega.{arith}
use lib.Dec.{eqb}
use lib.ListN.{length, take, length-append}
use lib.Seq.{take_at}
use Rattle.theory.specs.Logic.{when◌then◌else◌}
use Rattle.theory.proofs.Tests.{by_cases}
use Rattle.theory.proofs.Bytes.{put_front, drop-after}
use Rattle.setups.specs.declared.Setup.{Setup}
use Rattle.setups.specs.declared.ReadRefusal.TheVariants.{Version2}
use Rattle.setups.specs.Reading.{version_in, read_version1, read_setup}
use Rattle.setups.specs.Writing.{packed_setup, written}
use Rattle.setups.specs.Claims.{ReadsBack, Claims}
use Rattle.setups.proofs.ReadBack.{reads-back, reads-version-1}
use Rattle.setups.proofs.InRange.{read-cases, in-range}
use Rattle.setups.proofs.Member.{member-in-range}
use Rattle.setups.proofs.Accepted.{written-cases, writes, reads}
use Rattle.setups.proofs.WrittenBack.{written_back}

-- ---- the writer ----

module _ (buffer : List ℕ) (members : ℕ) (q : List ℕ) (gets sets : ℕ) (features : List ℕ) where
  not-empty : length features ≤ length (packed_setup members q gets sets features)
  unfolding packed_setup
  not-empty = rw length-append (omega arith)

  module _ (n : ℕ) (b : List ℕ) (e : ◌≡◌ {A = ℕ × List ℕ} (n, b) (written buffer members q gets sets features)) where
    refused-leaves : ◌≡◌ {A = ℕ × List ℕ} (n, b) (0, buffer) → b ≡ buffer
    refused-leaves d = ap (λ (x : ℕ × List ℕ). x.1) d

    read-back : (n ≡ 0 → ⊥) → ReadsBack buffer members q gets sets features n b
    read-back z = written-cases buffer members q gets sets features n b e (λ d. absurd (z (ap (λ (x : ℕ × List ℕ). x.0) d))) λ s.
        let x = packed_setup members q gets sets features in
        let k : n ≡ length x = s.count in
        let t : take n b ≡ x = rw (s.after, put_front x buffer s.fits) (take_at x _ n (sym k)) in
        record {
          same_setup = rw t (reads-back members q gets sets s.numbers features s.long);
          by_version1 = rw t (reads-version-1 members q gets sets s.numbers features s.long);
          rest_kept = rw s.after (drop-after n 0 x buffer (omega arith));
        }

    nothing_written : n ≡ 0 → b ≡ buffer
    nothing_written z = written-cases buffer members q gets sets features n b e refused-leaves λ s. absurd (omega (arith, not-empty))

-- ---- the readers ----

read_alike : (l : List ℕ) (s : Setup) → read_version1 l ≡ Ok s → read_setup l ≡ Ok s
unfolding read_version1 read_setup when◌then◌else◌
read_alike l s e = by_cases (eqb (version_in l) 2) (λ t. let d = rw t at e in cc) (λ t. rw t (rw t at e))

never-named : (l : List ℕ) → read_setup l ≡ Err Version2 → ⊥
never-named l = read-cases (λ o. o ≡ Err Version2 → ⊥) l (λ e. cc) (λ s r e. cc)

pub claims : Claims
claims = record {
  writer = writes;
  readers = reads;
  reads_back = read-back;
  unwritten = λ buffer members q gets sets features b e. nothing_written buffer members q gets sets features 0 b e refl;
  alike = read_alike;
  never_named = never-named;
  in_range = in-range;
  member_in_range = member-in-range;
  written_back = λ l buffer h room. written_back l h buffer room;
}
