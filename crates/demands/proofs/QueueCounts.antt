-- The worked examples of queue counts hold, and the hypotheses of request 9's claims can be met: a setup of two counts is
-- packed, and the card that it makes. Assumes nothing.
use mathlib.Core.Path.{◌≡◌, refl}
use mathlib.Core.Bool.{true}
use mathlib.Core.List.{List, [], ◌∷◌}
use Prim.Native.Nat.{ℕ, ◌≤◌}
use native.Mathlib.Omega.{arith}
use lib.ListN.{take, replicate}
use Rattle.theory.specs.Logic.{when◌then◌else◌, unless◌answer◌then◌, ◌and◌, within}
use Rattle.theory.specs.Bytes.{put}
use Rattle.setups.specs.Bits.{widths, joined, big_endian, packed}
use Rattle.setups.specs.Setup.{in_ranges, all, in_numbers}
use Rattle.setups.specs.Writing.{count_fields, are_equal, fields_of, packed_setup, placed, written}
use Rattle.card.specs.Layout.{card_size, is_member, member_in}
use Rattle.card.specs.Sound.{is_sound}
use Rattle.events.specs.Events.{set_up, set_up_from}
use Rattle.demands.specs.Calls.{card_reset, step}
use Rattle.demands.specs.QueueCounts.{counts_card, count_examples, CountExamplesHold}
use Rattle.demands.proofs.Model.{model}
use Rattle.demands.proofs.QueuesKept.{set-up-from-packed, queues-kept, counts-in-range}

pub count-examples-hold : CountExamplesHold
unfolding model counts_card count_examples
count-examples-hold = refl

-- ---- a packed setup ----

abbrev packed_bytes : List ℕ
packed_bytes = 0x21 ∷ 0x04 ∷ 0x40 ∷ 0x10 ∷ replicate 16 0

is-packed : ◌≡◌ {A = ℕ × List ℕ} (20, packed_bytes) (written (replicate 20 9) 2 (1 ∷ 2 ∷ []) 1 1 (replicate 16 0))
unfolding when◌then◌else◌ unless◌answer◌then◌ ◌and◌ within put widths joined big_endian packed in_ranges all in_numbers
    count_fields are_equal fields_of packed_setup placed written
is-packed = refl

same-card : set_up_from (replicate (card_size 2) 0) (take 20 packed_bytes) ≡ set_up (replicate (card_size 2) 0) 2 (1 ∷ 2 ∷ []) 1 1 (replicate 16 0)
same-card =
    set-up-from-packed (replicate (card_size 2) 0) (replicate 20 9) 2 (1 ∷ 2 ∷ []) 1 1 (replicate 16 0) 20 packed_bytes is-packed (λ e. omega arith)

-- ---- a member of it ----

member-here : is_member counts_card 2 ≡ true
unfolding model counts_card
member-here = refl

sound-here : is_sound counts_card ≡ true
unfolding model counts_card
sound-here = refl

in-range : (1 ≤ (member_in counts_card 2).queues) × ((member_in counts_card 2).queues ≤ 4)
in-range = counts-in-range counts_card sound-here 2 member-here

kept : (member_in (step counts_card (card_reset 5)).0 2).queues ≡ (member_in counts_card 2).queues
kept = queues-kept counts_card 2 member-here (card_reset 5)
