-- The call under a setup, return by return. Assumes nothing.
use mathlib.Core.Path.{◌≡◌, refl, sym}
use mathlib.Core.Bool.{true, false, not}
use mathlib.Core.List.{List}
use Rattle.std.proofs.Common.{Some}
use Prim.Native.Nat.{ℕ, ◌≤◌}
use native.Mathlib.Omega.{arith}
use borrow.Author.Tests.{not-true, not-false}
use lib.ListN.{length, take}
use lib.Seq.{take_at}
use Rattle.theory.specs.Logic.{when◌then◌else◌, unless◌answer◌then◌}
use Rattle.theory.proofs.Tests.{by_cases}
use Rattle.theory.proofs.Bytes.{put_front}
use Rattle.inventory.specs.Inventory.{parts_size}
use Rattle.setups.specs.declared.MemberSetup.{MemberSetup}
use Rattle.salvage.specs.Salvage.{repaired, Salvage, is_taken, salvaged, refused, salvage_of, salvage_under}
use Rattle.salvage.specs.Claims.{InSetup}
use Rattle.salvage.proofs.Refusals.{taken-fits}
use Rattle.salvage.proofs.Values.{repaired-long}

-- ---- what is not refused ----

module _ (s : MemberSetup) (g : InSetup s.queues s.features) (damaged : List ℕ) (b : Salvage) where
  -- what is written is the repaired list
  pub salvage-written : ((salvage_under (Some s) damaged b).written ≡ 0 → ⊥)
      → take (salvage_under (Some s) damaged b).written (salvage_under (Some s) damaged b).list ≡ repaired s.queues s.features damaged
  unfolding salvage_under salvage_of salvaged unless◌answer◌then◌ when◌then◌else◌
  salvage-written some =
      let q = s.queues in
      let f = s.features in
      let l = repaired q f damaged in
      by_cases (is_taken q (length f) (length damaged) (length b.list) (length b.kept) (length b.dropped))
      (λ t.
      let room : parts_size q ≤ length b.list = (taken-fits q f damaged b.list b.kept b.dropped true (sym t) refl).list-room in
      let long = repaired-long q f damaged g in
      rw (t, put_front l b.list (omega arith)) (take_at l _ (parts_size q) long))
      (λ t. absurd (some (rw t)))
