-- The hypotheses of the claims on messages can be met. Assumes nothing.
use mathlib.Core.Path.{◌≡◌, refl}
use mathlib.Core.Bool.{true, false}
use lib.ListN.{replicate}
use Rattle.card.specs.Layout.{is_member}
use Rattle.message.specs.Format.{length_of}
use Rattle.message.specs.Message.{answer_of, message_of}
use Rattle.demands.specs.Calls.{message, refused, step, names}
use Rattle.demands.specs.Examples.{example_card}
use Rattle.demands.specs.Messages.{read_from, write_to, four_bytes}
use Rattle.demands.proofs.Model.{model}

member-here : is_member example_card 1 ≡ true
unfolding model
member-here = refl

-- a write of four bytes in a buffer of 23
no-response : (message_of example_card (write_to 0 0 0 four_bytes) (replicate 23 0)).0 ≡ 0
unfolding model
no-response = refl

-- a stale one
no-data : length_of (answer_of example_card (write_to 0 9 0 four_bytes) 20).1 ≡ 0
unfolding model
no-data = refl

refused-message : refused (step example_card (message (write_to 0 9 0 four_bytes) 20)).1 ≡ true
unfolding model
refused-message = refl

-- a message names the member that it is for, in a buffer of any length, and no other
names-member : names 1 (message (read_from 0 0 12) 0) ≡ true
unfolding model
names-member = refl

names-other : names 1 (message (write_to 1 0 0 four_bytes) 32) ≡ false
unfolding model
names-other = refl
