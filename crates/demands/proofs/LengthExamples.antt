-- The worked examples of requests of any length hold, all at once, by computation, and the hypotheses of request 2's claims can be
-- met. Assumes nothing.
use mathlib.Core.Path.{◌≡◌, refl}
use mathlib.Core.Bool.{true, false}
use mathlib.Core.List.{List, []}
use Prim.Native.Nat.{ℕ, ◌+◌, ◌≤◌}
use lib.Dec.{leb→le}
use lib.ListN.{length, replicate}
use Rattle.protocol.specs.Opcodes.{opcode_row, fixed_size, bit}
use Rattle.frame.specs.Frame.{opcode_of}
use Rattle.card.specs.Layout.{in_use_of}
use Rattle.host.specs.Request.{request}
use Rattle.demands.specs.Calls.{step}
use Rattle.demands.specs.Examples.{example_card}
use Rattle.demands.specs.Lengths.{send_data, length_examples, LengthExamplesHold}
use Rattle.demands.proofs.Model.{model}

pub length-examples-hold : LengthExamplesHold
unfolding model length_examples
length-examples-hold = refl

-- ---- zeros at the end of a request that is cut, and bytes past a whole one ----

-- a create of which 17 bytes of data came
abbrev cut_request : List ℕ
cut_request = request 0x0a 1 1 (replicate 17 0)

cut-framed : 24 ≤ length cut_request
unfolding model
cut-framed = leb→le _ _ tt

cut-create : length cut_request + 7 ≤ 24 + fixed_size (opcode_of cut_request)
unfolding model fixed_size
cut-create = leb→le _ _ tt

-- a whole one, before six bytes more
abbrev whole_request : List ℕ
whole_request = request 0x0a 1 1 (replicate 24 0)

whole-create : 24 + fixed_size (opcode_of whole_request) ≤ length whole_request
unfolding model fixed_size
whole-create = leb→le _ _ tt

no-list : (opcode_row (opcode_of whole_request)).listed ≡ false
unfolding model
no-list = refl

room-left : length whole_request + 6 ≤ 4096
unfolding model
room-left = leb→le _ _ tt

-- ---- empty list use ----

-- on a fresh card list use is in use
use-in-use : bit (in_use_of example_card) 0x01 ≡ true
unfolding model
use-in-use = refl

empty-use : in_use_of (step example_card (send_data 0x01 [])).0 ≡ 0
unfolding model
empty-use = refl
