-- The calls under a setup, return by return. Assumes nothing.
use mathlib.Core.Path.{◌≡◌, sym}
use mathlib.Core.Bool.{true}
use mathlib.Core.List.{List, []}
use Rattle.std.proofs.Common.{Option, Some, None}
use Prim.Native.Nat.{ℕ, ◌≤◌, ◌<◌}
use native.Mathlib.Omega.{arith}
use borrow.Author.Tests.{leb-true}
use lib.Dec.{leb}
use lib.ListN.{length, take}
use lib.Seq.{take_at}
use Rattle.theory.specs.Logic.{unless◌answer◌then◌}
use Rattle.theory.proofs.Tests.{within-high}
use Rattle.theory.proofs.Bytes.{put_front}
use Rattle.inventory.specs.Inventory.{parts_size}
use Rattle.setups.specs.declared.MemberSetup.{MemberSetup}
use Rattle.setups.specs.Member.{member_setup}
use Rattle.setups.specs.Claims.{MemberInRange}
use Rattle.setups.proofs.Member.{member-in-range}
use Rattle.difference.specs.declared.Refusal.{Refusal}
use Rattle.difference.specs.Difference.{Lookup, number_of, value_at, verdict_of, lookup_told, made, merge_of}
use Rattle.difference.specs.Under.{lookup_under, merge_under}
use Rattle.difference.specs.Handed.{Inside}
use Rattle.difference.specs.Claims.{Pair}
use Rattle.difference.proofs.Handed.{lookup-inside, number-some, verdict-cases, verdict-refused, verdict-passed}
use Rattle.difference.proofs.Made.{pair-long}
use Rattle.difference.proofs.Verdicts.{passes}
use Rattle.difference.proofs.Claims.{lookup-pair, claims}

pub member-few : (l : List ℕ) (k : ℕ) (s : MemberSetup) → Some s ≡ member_setup l k → s.queues < 5
member-few l k s e =
    let r : MemberInRange s = rw (← e) at (member-in-range l k) in
    omega (arith, within-high 1 4 s.queues r.count)

pub under-inside : (o : Option MemberSetup) (full later : List ℕ) (t selector : ℕ) (l : Lookup) → l ≡ lookup_under o full later t selector
    → Inside full later l
unfolding lookup_under Inside
under-inside None full later t selector l e = rw e tt
under-inside (Some s) full later t selector l e = lookup-inside s.queues s.features full later t selector l e

-- ---- what is not refused ----

module _ (s : MemberSetup) (few : s.queues < 5) (full later : List ℕ) where
  -- a merge that is not refused: the pair, and what the bytes written are
  pub record Merged (out : List ℕ) : Type 0 where
    pub pair : Pair s.queues s.features full later
    pub bytes : take (merge_under (Some s) full later out).1.0 (merge_under (Some s) full later out).1.1 ≡ made s.queues full later

  pub merged-made : (out : List ℕ) → (merge_under (Some s) full later out).0 ≡ 0 → Merged out
  unfolding merge_under merge_of unless◌answer◌then◌
  merged-made out e =
      let q = s.queues in
      let v = verdict_of q s.features full later true (leb (parts_size q) (length out)) in
      let refused : Refusal → ℕ × (ℕ × List ℕ) = λ w. (number_of w, (0, out)) in
      verdict-cases v
      (λ z.
      let p = passes q s.features full later true (leb (parts_size q) (length out)) few z in
      let long = pair-long q s.features full later p.pair in
      let room : parts_size q ≤ length out = leb-true _ _ p.fits in
      record {
        pair = p.pair;
        bytes = rw (verdict-passed v refused _ z, put_front (made q full later) out (omega arith)) (take_at (made q full later) _ (parts_size q) long);
      })
      (λ r h. absurd (number-some r (rw (verdict-refused v refused _ r h) at e)))

  module _ (t selector : ℕ) where
    pub found-pair : (lookup_told (lookup_under (Some s) full later t selector)).0 ≡ 0 → Pair s.queues s.features full later
    unfolding lookup_under unless◌answer◌then◌
    found-pair e = lookup-pair s.queues s.features full later t selector few e

    -- the made list has the same value
    pub found-made : Pair s.queues s.features full later
        → value_at full later (lookup_under (Some s) full later t selector)
        ≡ value_at (made s.queues full later) [] (lookup_under (Some s) (made s.queues full later) [] t selector)
    unfolding lookup_under unless◌answer◌then◌
    found-made pair = sym ((claims.made_is_full s.queues s.features full later pair).same_value t selector)
