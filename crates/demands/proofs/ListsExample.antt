-- The hypotheses of requests 7 and 8 on commands can be met: the target of the round trip's example, a fresh full capture, and a
-- later list of a device status; and for request 8 that list, cut. Assumes nothing.
use Rattle.std.specs.Prelude.{Ok}
use mathlib.Core.Path.{◌≡◌, refl, ap}
use mathlib.Core.List.{List, [], ◌∷◌}
use Rattle.std.proofs.Common.{Option, Some}
use Prim.Native.Nat.{ℕ, ◌≤◌}
use native.Mathlib.Omega.{arith}
use lib.ListN.{length, replicate, take, drop}
use Rattle.capture.specs.Capture.{capture_of}
use Rattle.capture.proofs.Sizes.{capture-length}
use Rattle.card.specs.declared.Setup.{Setup}
use Rattle.setups.specs.declared.MemberSetup.{MemberSetup}
use Rattle.setups.specs.Bits.{bit, bits_at}
use Rattle.setups.specs.Setup.{no_counts, sixteen, setup_with}
use Rattle.setups.specs.Reading.{counts_from, setup_at, head_right, is_version1, take_version1, read_setup}
use Rattle.setups.specs.Member.{member_of, member_setup}
use Rattle.difference.specs.Difference.{span_from, place_in, has_row, has_rows, verdict_of, on_verdict, lookup_of, lookup_told, merge_of}
use Rattle.difference.specs.Under.{lookup_under, merge_under}
use Rattle.salvage.specs.Salvage.{Salvage, salvage, is_taken, salvaged, salvage_of, salvage_under}
use Rattle.parts.specs.List.{longest_list}
use Rattle.reply.specs.Reply.{head_of}
use Rattle.demands.specs.RoundTrip.{capture}
use Rattle.demands.specs.Lists.{HasMember, Settable, Alike, SetAlike, merged_list, after_both, value_under, set_list, salvaged_list}
use Rattle.demands.proofs.Model.{model}
use Rattle.demands.proofs.Lists.{merged-sets, found-captured, salvaged-accepted}
use Rattle.demands.proofs.RoundTripExample.{target, sound-target, setup-target, target-queues, target-member, target-set, target-get, target-stopped, set-in-use, recapture-in-use}

settable : Settable target 1 1
settable =
    record {
      sound = sound-target;
      here = target-member;
      set_object = target-set;
      stopped = target-stopped;
      set_in_use = set-in-use;
    }

-- the setup of that card, packed, and what it says of member 1
abbrev bench : List ℕ
bench = 0x11 ∷ 0x04 ∷ 0x40 ∷ replicate 16 0

abbrev says : Option MemberSetup
says = Some (record { queues = 1; features = replicate 16 0 })

bench-says : member_setup bench 1 ≡ says
unfolding model bit bits_at no_counts sixteen counts_from setup_at head_right is_version1 take_version1 read_setup member_of member_setup
bench-says = refl

member-said : HasMember (read_setup bench) 2
unfolding model bit bits_at no_counts sixteen counts_from setup_at head_right is_version1 take_version1 read_setup
member-said = record { setup = setup_with 2 (1 ∷ 1 ∷ []) 1 1 (replicate 16 0); read = refl; low = omega arith; high = omega arith }

alike : Alike target 1 (member_setup bench 1)
alike =
    rw bench-says (record { said = record { queues = 1; features = replicate 16 0 }; known = refl; features = ap (λ (y : Setup). y.features) setup-target; queues = target-queues })

abbrev full : List ℕ
full = capture_of 1 (replicate 205 0)

-- device status 15
abbrev later : List ℕ
later = 3 ∷ 1 ∷ 0 ∷ 0 ∷ 0 ∷ 0 ∷ 0 ∷ 0 ∷ 0 ∷ 0 ∷ 0 ∷ 0 ∷ 1 ∷ 0 ∷ 0 ∷ 0 ∷ 15 ∷ []

full-short : length full ≤ longest_list
full-short = omega (arith, capture-length 1 (replicate 205 0) (omega arith) refl)

says-merged : (merge_under says full later (replicate 229 0)).0 ≡ 0
unfolding model span_from place_in has_row has_rows verdict_of on_verdict merge_of merge_under
says-merged = refl

is-merged : (merge_under (member_setup bench 1) full later (replicate 229 0)).0 ≡ 0
is-merged = rw bench-says says-merged

merged : SetAlike target 1 1 full later (merged_list (member_setup bench 1) full later (replicate 229 0)) 8
merged = merged-sets target 1 1 bench 1 settable alike full later (replicate 229 0) is-merged full-short (omega arith) 8 (omega arith)

says-found : (lookup_told (lookup_under says full later 0x103 0)).0 ≡ 0
unfolding model span_from place_in has_row has_rows verdict_of on_verdict lookup_of lookup_told lookup_under
says-found = refl

is_found : (lookup_told (lookup_under (member_setup bench 1) full later 0x103 0)).0 ≡ 0
is_found = rw bench-says says-found

found : value_under (member_setup bench 1) full later 0x103 0
    ≡ value_under (member_setup bench 1) (drop 8 (capture (after_both target 1 1 full later 237) 1 0 237)) [] 0x103 0
found =
    found-captured target 1 1 bench 1 settable alike 0 target-get recapture-in-use full later 0x103 0 is_found full-short (omega arith) 237
    (rw target-queues (omega arith))

-- buffers of just the length
abbrev lent : Salvage
lent = salvage 0 (replicate 229 0) (replicate 9 0) (replicate 4 0) 0

is-salvaged : (salvage_under (member_setup bench 1) (take 16 later) lent).written ≡ 229
unfolding model is_taken salvaged salvage_of salvage_under
is-salvaged = rw bench-says

accepted : (set_list target 1 1 (salvaged_list (member_setup bench 1) (take 16 later) lent) 8).1 ≡ head_of (Ok tt)
accepted =
    salvaged-accepted target 1 1 bench 1 settable alike (take 16 later) lent (λ z. let n = is-salvaged in omega arith) 8 (omega arith)
