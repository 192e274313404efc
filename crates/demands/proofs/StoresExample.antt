-- The hypotheses of the claims on card stores can be met: member 1 of the example card, which has one queue. Assumes nothing.
use mathlib.Core.Path.{◌≡◌, refl}
use mathlib.Core.Bool.{true, false}
use mathlib.Core.List.{List, [], ◌∷◌}
use Prim.Native.Nat.{ℕ}
use native.Mathlib.Omega.{arith}
use lib.ListN.{length, replicate}
use Rattle.wire.specs.Le.{bytes, number}
use Rattle.card.specs.Layout.{setup_of, member_in}
use Rattle.card.specs.Sound.{is_sound}
use Rattle.demands.specs.Calls.{card_store, answered, step}
use Rattle.demands.specs.Examples.{example_card}
use Rattle.demands.specs.QueueSizes.{Ring, power, queue_with}
use Rattle.demands.specs.Stores.{Part, device_status, queue, StoreDone}
use Rattle.demands.proofs.Model.{model}
use Rattle.demands.proofs.StoreRows.{no-features}
use Rattle.demands.proofs.Stores.{stores-done}

sound-card : is_sound example_card ≡ true
unfolding model
sound-card = refl

two-members : (setup_of example_card).members ≡ 2
unfolding model
two-members = refl

one-queue : (member_in example_card 1).queues ≡ 1
unfolding model
one-queue = refl

stores : (t s : ℕ) (value : List ℕ) → StoreDone example_card 1 t s value
stores = stores-done.member example_card sound-card 1 (omega arith) (rw two-members (omega arith))

-- a device status, and a queue of size 256
status : (step example_card (card_store 1 0x103 0 (5 ∷ []))).1 ≡ answered 0
status = ((stores 0x103 0 (5 ∷ [])).done 44 (device_status 0) (λ e. absurd (omega arith))).0

queue-here : Part (member_in example_card 1).queues 0x104 0 (length (queue_with 256 1)) 45
unfolding bytes
queue-here = rw one-queue (queue 0 (omega arith))

ring-here : Ring (number 0 2 (queue_with 256 1)) (number 4 2 (queue_with 256 1))
unfolding model
ring-here = power {k = 8} (omega arith) refl

stored : (step example_card (card_store 1 0x104 0 (queue_with 256 1))).1 ≡ answered 0
stored = ((stores 0x104 0 (queue_with 256 1)).done 45 queue-here (λ e. ring-here)).0

-- refused: device features, a status of two bytes, no member 3, a card of no bytes
features : step example_card (card_store 1 0x100 0 (replicate 16 0)) ≡ (example_card, answered 2)
features = (stores 0x100 0 (replicate 16 0)).no_part (λ n at p. no-features 1 (omega arith) (rw one-queue at p))

two_bytes : step example_card (card_store 1 0x103 0 (5 ∷ 5 ∷ [])) ≡ (example_card, answered 3)
two_bytes = (stores 0x103 0 (5 ∷ 5 ∷ [])).other_length 1 44 (device_status 0) (λ e. omega arith)

no-member : step example_card (card_store 3 0x103 0 (5 ∷ [])) ≡ (example_card, answered 1)
no-member = stores-done.no_member example_card sound-card 3 (λ l h. omega (arith, two-members)) 0x103 0 (5 ∷ [])

no-card : is_sound [] ≡ false
unfolding model
no-card = refl

unsound : step [] (card_store 1 0x103 0 (5 ∷ [])) ≡ ([], answered 9)
unsound = stores-done.unsound [] no-card 1 0x103 0 (5 ∷ [])
