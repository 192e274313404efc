-- What is written is part of the list that was lent. Assumes nothing.
use mathlib.Core.Path.{◌≡◌, refl, sym}
use mathlib.Core.Bool.{true}
use mathlib.Core.List.{List}
use Rattle.std.proofs.Common.{Option, Some, None}
use Prim.Native.Nat.{ℕ, ◌≤◌}
use native.Mathlib.Omega.{arith}
use lib.ListN.{length}
use lib.Seq.{length-take-le}
use Rattle.theory.specs.Logic.{when◌then◌else◌}
use Rattle.theory.proofs.Tests.{by_cases}
use Rattle.theory.proofs.Bytes.{length-put}
use Rattle.salvage_file.specs.Counts.{IsPrefixLen}
use Rattle.inventory.specs.Inventory.{parts_size}
use Rattle.setups.specs.declared.MemberSetup.{MemberSetup}
use Rattle.salvage.specs.Salvage.{repaired, Salvage, is_taken, salvaged, salvage_of, salvage_under}
use Rattle.salvage.proofs.Refusals.{taken-fits}

fits : (o : Option MemberSetup) (damaged : List ℕ) (b : Salvage)
    → (salvage_under o damaged b).written ≤ length (salvage_under o damaged b).list
unfolding salvage_under salvage_of salvaged when◌then◌else◌
fits None damaged b = omega arith
fits (Some s) damaged b =
    let q = s.queues in
    by_cases (is_taken q (length s.features) (length damaged) (length b.list) (length b.kept) (length b.dropped))
    (λ t.
    let room : parts_size q ≤ length b.list = (taken-fits q s.features damaged b.list b.kept b.dropped true (sym t) refl).list-room in
    rw (t, length-put 0 (repaired q s.features damaged) b.list) room)
    (λ t. rw t (omega arith))

-- x is what the call left, b what was there before it
pub written-counts : (s : Option MemberSetup) (damaged : List ℕ) (x b : Salvage) → x ≡ salvage_under s damaged b → IsPrefixLen x.written x.list
written-counts s damaged x b e =
    let f : x.written ≤ length x.list = rw e (fits s damaged b) in
    (f, sym (length-take-le x.written x.list f))
