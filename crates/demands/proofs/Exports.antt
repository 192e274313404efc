-- What the exported functions give is the step of a sequence. Assumes nothing.
use mathlib.Core.Path.{◌≡◌, refl, ap}
use mathlib.Core.List.{List}
use Prim.Native.Nat.{ℕ, ◌≤◌}
use native.Mathlib.Omega.{arith}
use lib.ListN.{length, take}
use Rattle.theory.specs.Bytes.{put}
use Rattle.theory.proofs.Bytes.{bytes_at-put}
use Rattle.reply.specs.Reply.{written as written_of}
use Rattle.admin.specs.Command.{respond, delivered, command_of}
use Rattle.message.specs.Message.{answer_of, delivered as responded_of, message_of}
use Rattle.demands.specs.Calls.{written, responded, step}
use Rattle.demands.specs.Exports.{ExportsStep}
use Rattle.demands.proofs.Demand1.{delivers}
use Rattle.demands.proofs.Messages.{responded as responds}

-- what is put at the front of a buffer is read there
front : (x b : List ℕ) → length x ≤ length b → take (length x) (put 0 x b) ≡ x
front x b h = bytes_at-put 0 x b (omega arith)

pub exports-step : ExportsStep
unfolding step command_of delivered written_of message_of responded_of
exports-step = record {
  commands = λ c r b.
      ap (λ (x : List ℕ). ((respond c r (length b)).0, written x)) (front (respond c r (length b)).1 b (delivers c r b).within);
  hand_backs = λ c m. refl;
  wipes = λ c m g. refl;
  card_resets = λ c g. refl;
  card_stores = λ c m t s value. refl;
  begins = λ c m. refl;
  feeds = λ c m x. refl;
  finishes = λ c m id. refl;
  drops = λ c m. refl;
  messages = λ c x b.
      ap (λ (y : List ℕ). ((answer_of c x (length b)).0, responded y)) (front (answer_of c x (length b)).1 b (responds c x b).within);
}
