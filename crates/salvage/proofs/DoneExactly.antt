-- When a salvage is done, and what it then writes. Assumes nothing.
use mathlib.Core.Path.{◌≡◌, refl, ap, sym, ◌∙◌}
use mathlib.Core.Bool.{Bool, true}
use mathlib.Core.List.{List, ◌++◌}
use Rattle.std.specs.Prelude.{IfSome}
use Rattle.std.proofs.Common.{Option, Some, None}
use Prim.Native.Nat.{ℕ, ◌<◌, ◌≤◌}
use native.Mathlib.Omega.{arith}
use borrow.Author.Tests.{eq-eqb, le-leb}
use lib.ListN.{length, drop}
use Rattle.theory.specs.Logic.{when◌then◌else◌, unless◌answer◌then◌}
use Rattle.theory.specs.Bytes.{put}
use Rattle.theory.proofs.Tests.{by_cases, and_i, within-high}
use Rattle.theory.proofs.Bytes.{put_front}
use Rattle.inventory.specs.Inventory.{row_at, present, parts_size, part_count}
use Rattle.setups.specs.declared.MemberSetup.{MemberSetup}
use Rattle.setups.specs.Member.{member_setup}
use Rattle.setups.specs.Claims.{MemberInRange}
use Rattle.setups.proofs.Member.{member-in-range}
use Rattle.salvage.specs.Salvage.{repaired, kept_item, kept_report, dropped_report, Salvage, is_taken, salvaged, refused, salvage_of, salvage_under}
use Rattle.salvage.specs.Claims.{InSetup}
use Rattle.salvage.specs.Exact.{Asks, Writes, DoneUnder, DoneExactly}
use Rattle.salvage.proofs.Flags.{length-one, length-byte}
use Rattle.salvage.proofs.Refusals.{taken-fits}
use Rattle.salvage.proofs.Values.{repaired-long}

-- ---- how long what is written is ----

pub kept-long : (q : ℕ) (features l : List ℕ) → q < 5 → length (kept_report q features l) ≡ part_count q
unfolding kept_report kept_item
kept-long q features l few = length-one q (kept_item q features l) few (λ i. length-byte (present q (row_at i)) _)

pub dropped-long : (q : ℕ) (features l : List ℕ) → length (dropped_report q features l) ≡ 4
unfolding dropped_report
dropped-long q features l = refl

-- ---- when it is done ----

front : (n : ℕ) (x l : List ℕ) → length x ≡ n → n ≤ length l → put 0 x l ≡ x ++ drop n l
front n x l e h = put_front x l (omega arith) ∙ ap (λ k. x ++ drop k l) e

module _ (s : MemberSetup) (damaged : List ℕ) (b : Salvage) where
  abbrev test : Bool
  test = is_taken s.queues (length s.features) (length damaged) (length b.list) (length b.kept) (length b.dropped)

  asks-taken : InSetup s.queues s.features → Asks s damaged b → test ≡ true
  unfolding is_taken
  asks-taken g a =
      and_i _ _
      (and_i _ _
      (and_i _ _
      (and_i _ _ (and_i _ _ g.count (eq-eqb _ _ g.long)) (le-leb _ _ a.short))
      (le-leb _ _ a.list))
      (le-leb _ _ a.kept))
      (le-leb _ _ a.dropped)

  taken-asks : test ≡ true → Asks s damaged b
  taken-asks t =
      let f = taken-fits s.queues s.features damaged b.list b.kept b.dropped true (sym t) refl in
      record { short = f.short; list = f.list-room; kept = f.kept-room; dropped = f.dropped-room }

  done-is : test ≡ true → salvage_under (Some s) damaged b ≡ salvaged s.queues s.features damaged b
  unfolding salvage_under salvage_of unless◌answer◌then◌ when◌then◌else◌
  done-is t = rw t

  refused-is : (Asks s damaged b → ⊥) → salvage_under (Some s) damaged b ≡ refused b
  unfolding salvage_under salvage_of unless◌answer◌then◌ when◌then◌else◌
  refused-is n =
      by_cases test (λ t. absurd (n (taken-asks t))) (λ t. rw t)

  done-writes : InSetup s.queues s.features → Asks s damaged b → Writes s damaged b (salvage_under (Some s) damaged b)
  unfolding salvaged
  done-writes g a =
      let q = s.queues in
      let f = s.features in
      let few : q < 5 = omega (arith, within-high 1 4 q g.count) in
      rw (done-is (asks-taken g a))
      (record {
        written = refl;
        list = front (parts_size q) (repaired q f damaged) b.list (repaired-long q f damaged g) a.list;
        kept = front (part_count q) (kept_report q f damaged) b.kept (kept-long q f damaged few) a.kept;
        dropped = front 4 (dropped_report q f damaged) b.dropped (dropped-long q f damaged) a.dropped;
        left = refl;
      })

done-under : (o : Option MemberSetup) (damaged : List ℕ) (b : Salvage) → IfSome o MemberInRange
    → DoneUnder o damaged b (salvage_under o damaged b)
unfolding salvage_under
done-under None damaged b r = refl
done-under (Some s) damaged b r =
    record { done = done-writes s damaged b (record { count = r.count; long = r.features }); refused = refused-is s damaged b }

pub done-exactly : DoneExactly
done-exactly setup m damaged b = done-under (member_setup setup m) damaged b (member-in-range setup m)
