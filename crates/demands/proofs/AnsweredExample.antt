-- The hypotheses of the claims on messages that are answered can be met. Assumes nothing.
use mathlib.Core.Path.{◌≡◌, refl}
use mathlib.Core.List.{[]}
use Prim.Native.Nat.{ℕ}
use native.Mathlib.Omega.{arith}
use Rattle.card.specs.Layout.{generation_in}
use Rattle.demands.specs.Calls.{message, responded, step}
use Rattle.demands.specs.Examples.{example_card}
use Rattle.demands.specs.Messages.{read_from, write_to, four_bytes}
use Rattle.demands.specs.Answered.{ReadRequest, WriteRequest, Reaches, Applied}
use Rattle.demands.proofs.Model.{model}
use Rattle.demands.proofs.Answered.{is-answered}

reaches : Reaches example_card 0
unfolding model
reaches = record { sound = refl; here = omega arith; unmarked = refl }

is_read : ReadRequest (read_from 0 8 4) 0 8 4
unfolding model
is_read = record {
  header = record { request = refl; kind = refl; device = refl; size = refl };
  long = refl;
  from = refl;
  count = refl;
}

is-write : (sent : ℕ) → sent ≡ 0 → WriteRequest (write_to 0 0 8 four_bytes) 0 sent 8 four_bytes
unfolding model
is-write sent e = record {
  header = record { request = refl; kind = refl; device = refl; size = refl };
  long = refl;
  generation = rw e;
  from = refl;
  count = refl;
  bytes = refl;
}

fresh-generation : generation_in example_card 1 ≡ 0
unfolding model
fresh-generation = refl

written : Applied example_card (write_to 0 0 8 four_bytes) 1 8 four_bytes
    (step example_card (message (write_to 0 0 8 four_bytes) 24)).0 (step example_card (message (write_to 0 0 8 four_bytes) 24)).1
written = (is-answered example_card 0 reaches (write_to 0 0 8 four_bytes) 24).writes 8 four_bytes (is-write _ fresh-generation)
    (omega arith) (omega arith) (omega arith)

too_short : step example_card (message (read_from 0 8 4) 23) ≡ (example_card, responded [])
too_short = (is-answered example_card 0 reaches (read_from 0 8 4) 23).short_read 8 4 is_read (omega arith) (omega arith)
