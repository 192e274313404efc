-- What a setup says of one member is in range. Assumes nothing.
use mathlib.Core.Path.{◌≡◌, sym}
use mathlib.Core.Bool.{true}
use mathlib.Core.List.{List}
use Rattle.std.specs.Prelude.{IfSome}
use Rattle.std.proofs.Common.{Ok}
use Prim.Native.Nat.{ℕ, ◌-◌, ◌≤◌, ◌<◌}
use native.Mathlib.Omega.{arith}
use lib.ListN.{length, get_or, take}
use lib.Seq.{get_or-take}
use Rattle.theory.specs.Logic.{within}
use Rattle.theory.proofs.Tests.{unless-cases, within_low, within-high}
use Rattle.setups.specs.declared.Setup.{Setup}
use Rattle.setups.specs.Setup.{features_size, is_count}
use Rattle.setups.specs.Reading.{read_setup}
use Rattle.setups.specs.Member.{member_of, member_read, member_setup}
use Rattle.setups.specs.Claims.{InRange, MemberInRange}
use Rattle.setups.proofs.Ranges.{numbers-in, all-at}
use Rattle.setups.proofs.InRange.{read-cases, in-range}

member-known : (s : Setup) (m : ℕ) → InRange s → IfSome (member_of s m) MemberInRange
unfolding member_of
member-known s m r =
    unless-cases (λ o. IfSome o MemberInRange) (within 1 s.members m) _ _ (λ t. tt) λ t.
    let n = numbers-in _ _ _ _ r.numbers in
    let each = n.each in
    let low = within_low 1 s.members m t in
    let high = within-high 1 s.members m t in
    let k : m - 1 < s.members = omega arith in
    record {
      count = rw (← get_or-take s.members s.queues (m - 1) 0 k) (all-at is_count (take s.members s.queues) (m - 1) n.counts (omega arith));
      features = r.features;
    }

pub member-in-range : (l : List ℕ) (m : ℕ) → IfSome (member_setup l m) MemberInRange
unfolding member_setup
member-in-range l m = read-cases (λ o. IfSome (member_read o m) MemberInRange) l tt (λ s r. member-known s m r)

-- ---- the function ----

pub read-few : (l : List ℕ) (s : Setup) → Ok s ≡ read_setup l → s.members ≤ 16
read-few l s e = (numbers-in _ _ _ _ (in-range l s (sym e)).numbers).few
