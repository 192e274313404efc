-- The hypotheses of the claims on setup and resets can be met. Assumes nothing.
use mathlib.Core.Path.{◌≡◌, refl}
use mathlib.Core.Bool.{true}
use mathlib.Core.List.{[], ◌∷◌}
use Rattle.std.proofs.Common.{Ok}
use Prim.Native.Nat.{ℕ, ◌+◌, ◌*◌}
use native.Mathlib.Omega.{arith}
use lib.ListN.{length, replicate, length-replicate}
use Rattle.theory.specs.Logic.{when◌then◌else◌, unless◌answer◌then◌, ◌and◌}
use Rattle.theory.specs.Bytes.{put}
use Rattle.setups.specs.Bits.{bit, bits_at}
use Rattle.setups.specs.Setup.{no_counts, sixteen, setup_with}
use Rattle.setups.specs.Reading.{counts_from, setup_at, head_right, is_version1, read_number, take_version1, read_setup}
use Rattle.setups.specs.Accepted.{GoodSetup}
use Rattle.setups.specs.Examples.{zeros, bench}
use Rattle.card.specs.Layout.{setup_of, member_in, counts_of}
use Rattle.card.specs.Sound.{is_sound}
use Rattle.events.specs.Events.{set_up, set_up_from, numbered}
use Rattle.demands.specs.Calls.{wipe, card_reset, step}
use Rattle.demands.specs.Examples.{example_card}
use Rattle.demands.specs.Fresh.{FreshMember, FreshCard}
use Rattle.demands.proofs.Model.{model}
use Rattle.demands.proofs.Fresh.{setup-is-done, from-is-done, resets-done}
use Rattle.demands.proofs.HalvesExample.{after, sound-after, is-marked}

-- ---- setup ----

one-member : GoodSetup 1 (4 ∷ []) 8 0 zeros
one-member = record {
  some = omega arith;
  few = omega arith;
  each = refl;
  few_gets = omega arith;
  few_sets = omega arith;
  long = refl;
  least = λ i h. let e : i ≡ 0 = omega arith in rw e (omega arith);
  most = λ i h. let e : i ≡ 0 = omega arith in rw e (omega arith);
}

card-long : length (replicate {A = ℕ} 1293 7) ≡ 27 + 1266 * 1
card-long = length-replicate {A = ℕ} 1293 7

is-done : ((numbered (set_up (replicate 1293 7) 1 (4 ∷ []) 8 0 zeros)).0
    ≡ 0) × FreshCard (set_up (replicate 1293 7) 1 (4 ∷ []) 8 0 zeros).1 1 (4 ∷ []) 8 0 zeros 0
is-done = (setup-is-done (replicate 1293 7) 1 (4 ∷ []) 8 0 zeros).done one-member card-long

-- a count of 5
bad-count : numbered (set_up (7 ∷ []) 1 (5 ∷ []) 8 0 zeros) ≡ (4, 0 ∷ [])
bad-count = (setup-is-done (7 ∷ []) 1 (5 ∷ []) 8 0 zeros).bad (λ h. omega (arith, h.most 0 (omega arith)))

-- and a buffer of one byte
short-card : numbered (set_up (7 ∷ []) 1 (4 ∷ []) 8 0 zeros) ≡ (4, 0 ∷ [])
short-card = (setup-is-done (7 ∷ []) 1 (4 ∷ []) 8 0 zeros).other_length (λ e. omega arith)

-- ---- packed ----

is_read : read_setup bench ≡ Ok (setup_with 2 (1 ∷ 1 ∷ []) 1 1 zeros)
unfolding when◌then◌else◌ unless◌answer◌then◌ ◌and◌ put bit bits_at no_counts sixteen counts_from setup_at head_right
    is_version1 take_version1 read_setup
is_read = refl

packed-short : numbered (set_up_from (7 ∷ []) bench) ≡ (4, 0 ∷ [])
packed-short = (from-is-done (7 ∷ []) bench).other_length (setup_with 2 (1 ∷ 1 ∷ []) 1 1 zeros) is_read (λ e. omega arith)

not-read : read_number (read_setup []) ≡ 2
unfolding when◌then◌else◌ unless◌answer◌then◌ ◌and◌ bit bits_at head_right is_version1 take_version1 read_setup
not-read = refl

packed-bad : numbered (set_up_from (7 ∷ []) []) ≡ (4, 0 ∷ [])
packed-bad = (from-is-done (7 ∷ []) []).bad (λ e. omega (arith, not-read))

-- ---- resets ----

wiped : FreshMember (step after (wipe 1 4294967295)).0 1 (member_in after 1).queues (setup_of after).features 4294967295
wiped = (resets-done.wipes after 1 4294967295 sound-after is-marked (omega arith)).1

sound-card : is_sound example_card ≡ true
unfolding model
sound-card = refl

reset : FreshCard (step example_card (card_reset 9)).0 (setup_of example_card).members (counts_of example_card)
    (setup_of example_card).gets
    (setup_of example_card).sets (setup_of example_card).features 9
reset = (resets-done.resets example_card 9 sound-card (omega arith)).1
