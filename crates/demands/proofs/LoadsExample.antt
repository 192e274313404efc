-- The hypotheses of the claims of the calls that only read can be met: a card with a stored status, a list that is set, a wipe, a
-- setup of two queue counts, and two cards that differ in a member. Assumes nothing.
use Rattle.std.specs.Prelude.{Ok}
use mathlib.Core.Path.{◌≡◌, refl}
use mathlib.Core.Bool.{true}
use mathlib.Core.List.{List, [], ◌∷◌, ◌++◌}
use Prim.Native.Nat.{ℕ, ◌+◌, ◌≤◌}
use native.Mathlib.Omega.{arith}
use lib.ListN.{length, take, drop, replicate}
use Rattle.std.specs.Prelude.{Ok, is_ok}
use Rattle.theory.specs.Bytes.{same}
use Rattle.theory.specs.Machine.{run}
use Rattle.theory.proofs.Tests.{same_true}
use Rattle.inventory.specs.Inventory.{selector_of}
use Rattle.parts.specs.declared.ListForm.TheVariants.{Parts}
use Rattle.parts.specs.List.{parts_of, value_or, longest_list}
use Rattle.setups.specs.Bits.{widths, joined, big_endian, packed}
use Rattle.setups.specs.Writing.{count_fields, are_equal, fields_of, packed_setup, placed, written}
use Rattle.card.specs.Layout.{card_size, record_size, record_at, is_member, member_in, is_marked}
use Rattle.card.specs.Sound.{is_sound}
use Rattle.reply.specs.Reply.{head_of}
use Rattle.loads.specs.Loads.{part_of, load_in, load, lent, state_of, live_of, summary_of, member_told, configuration_for, configuration_told, setup_of_card}
use Rattle.demands.specs.Calls.{Call, hand_back, wipe, card_store, answered, step, of_wipe}
use Rattle.demands.specs.Claims.{DifferAtMost}
use Rattle.demands.specs.Examples.{example_card, all_used, create, set_mode, header, header_bytes}
use Rattle.demands.specs.Lists.{Settable, set_list}
use Rattle.demands.specs.Loads.{ReadsFresh, SetUpAgain, ReadAlike}
use Rattle.demands.specs.QueueCounts.{counts_card}
use Rattle.demands.proofs.Model.{model}
use Rattle.demands.proofs.Loads.{load_stored, load_set}
use Rattle.demands.proofs.LoadsFresh.{load-wiped, setup-again, loads-isolated}

-- what computes here besides the model
unfoldable pub loads : Unit {0}
unfolding model part_of load_in load lent state_of live_of summary_of member_told configuration_for configuration_told setup_of_card
    widths joined big_endian packed count_fields are_equal fields_of packed_setup placed written counts_card
loads = tt

-- ---- stored ----

a_status : List ℕ
a_status = 0x0f ∷ []

stores_status : Call
stores_status = card_store 1 0x103 0 a_status

is-stored : (step example_card stores_status).1 ≡ answered 0
unfolding loads a_status stores_status
is-stored = refl

stored : load (step example_card (card_store 1 0x103 0 a_status)).0 1 0x103 0 (0xee ∷ []) ≡ (Ok tt, a_status)
unfolding stores_status a_status
stored = load_stored example_card 1 0x103 0 a_status is-stored (0xee ∷ []) refl

-- ---- set: member 1 is stopped, with a set object ----

settable_card : List ℕ
settable_card = run step example_card (all_used ++ create 1 1 ∷ set_mode 1 1 ∷ stores_status ∷ [])

-- driver features alone
a_list : List ℕ
a_list = header_bytes (header 0x101 0 0 16) ++ replicate 16 0x55

example : Unit {0}
unfolding loads a_status stores_status settable_card a_list
example = tt

is-settable : Settable settable_card 1 1
unfolding example
is-settable = record { sound = refl; here = refl; set_object = refl; stopped = refl; set_in_use = refl }

is_set : (set_list settable_card 1 1 a_list 8).1 ≡ head_of (Ok tt)
unfolding example
is_set = refl

short : length a_list ≤ longest_list
unfolding example
short = omega arith

loads-features : is_ok (load settable_card 1 0x101 0 (replicate 16 0)).0 ≡ true
unfolding example
loads-features = refl

loads-status : is_ok (load settable_card 1 0x103 0 (0 ∷ [])).0 ≡ true
unfolding example
loads-status = refl

-- the part that the list has, and one that it has not got
set : load (set_list settable_card 1 1 a_list 8).0 1 0x101 0 (replicate 16 0)
    ≡ (Ok tt, value_or 0x101 (selector_of 0x101 0) (parts_of Parts a_list) (load settable_card 1 0x101 0 (replicate 16 0)).1)
set = load_set settable_card 1 1 is-settable a_list short 8 (omega arith) is_set 0x101 0 (replicate 16 0) loads-features

set_value : value_or 0x101 (selector_of 0x101 0) (parts_of Parts a_list) (load settable_card 1 0x101 0 (replicate 16 0)).1 ≡ replicate 16 0x55
unfolding example value_or
set_value = refl

kept : load (set_list settable_card 1 1 a_list 8).0 1 0x103 0 (0 ∷ [])
    ≡ (Ok tt, value_or 0x103 (selector_of 0x103 0) (parts_of Parts a_list) (load settable_card 1 0x103 0 (0 ∷ [])).1)
kept = load_set settable_card 1 1 is-settable a_list short 8 (omega arith) is_set 0x103 0 (0 ∷ []) loads-status

kept-value : value_or 0x103 (selector_of 0x103 0) (parts_of Parts a_list) (load settable_card 1 0x103 0 (0 ∷ [])).1 ≡ a_status
unfolding example value_or
kept-value = refl

-- ---- wiped ----

marked_card : List ℕ
marked_card = (step settable_card (hand_back 1)).0

is-wiped : (step marked_card (wipe 1 7)).1 ≡ answered 0
unfolding example marked_card
is-wiped = refl

wiped : ReadsFresh marked_card 1 7 (step marked_card (wipe 1 7)).0
wiped = load-wiped marked_card 1 7 is-wiped (omega arith)

-- ---- again ----

packed_bytes : List ℕ
packed_bytes = 0x21 ∷ 0x04 ∷ 0x40 ∷ 0x10 ∷ replicate 16 0

is-packed : ◌≡◌ {A = ℕ × List ℕ} (20, packed_bytes) (setup_of_card counts_card (replicate 20 0xee))
unfolding loads packed_bytes
is-packed = refl

same_length : length (replicate {A = ℕ} (card_size 2) 9) ≡ length counts_card
unfolding loads
same_length = refl

again : SetUpAgain counts_card (replicate (card_size 2) 9) packed_bytes 20
again = setup-again counts_card (replicate 20 0xee) (replicate (card_size 2) 9) packed_bytes 20 is-packed (λ e. omega arith) same_length

-- ---- isolated: member 1 has a status in the first card alone ----

first_card : List ℕ
first_card = (step example_card stores_status).0

cards : Unit {0}
unfolding example first_card
cards = tt

sound₁ : is_sound first_card ≡ true
unfolding cards
sound₁ = refl

sound₂ : is_sound example_card ≡ true
unfolding cards
sound₂ = refl

here : is_member first_card 1 ≡ true
unfolding cards
here = refl

same-before : take (record_at 1) first_card ≡ take (record_at 1) example_card
unfolding cards
same-before = refl

same_after : same (drop (record_at 1 + record_size) first_card) (drop (record_at 1 + record_size) example_card) ≡ true
unfolding cards
same_after = refl

differ : DifferAtMost 1 first_card example_card
differ = record { before = same-before; after = same_true _ _ same_after }

same-mark : is_marked first_card 1 ≡ is_marked example_card 1
unfolding cards
same-mark = refl

same-queues : (member_in first_card 1).queues ≡ (member_in example_card 1).queues
unfolding cards
same-queues = refl

is-wiped₁ : (step (run step first_card (hand_back 1 ∷ [])) (wipe 1 7)).1 ≡ answered 0
unfolding cards
is-wiped₁ = refl

isolated : ReadAlike (run step first_card (hand_back 1 ∷ wipe 1 7 ∷ [])) (run step example_card (hand_back 1 ∷ wipe 1 7 ∷ []))
isolated =
    loads-isolated first_card example_card sound₁ sound₂ 1 here differ same-mark same-queues (hand_back 1 ∷ []) (hand_back 1 ∷ []) refl
    (wipe 1 7) (rw is-wiped₁ of_wipe) []
