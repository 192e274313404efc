-- The hypotheses of the claims of specs/Claims.antt that have no file of their own can be met. Assumes nothing.
use mathlib.Core.Path.{◌≡◌, refl, ap}
use mathlib.Core.Logic.{◌≢◌}
use mathlib.Core.Bool.{true, false}
use mathlib.Core.List.{List, [], ◌∷◌}
use Prim.Native.Nat.{ℕ, ◌<◌}
use native.Mathlib.Omega.{arith}
use lib.ListN.{length, get_or, replicate}
use Rattle.std.specs.Prelude.{Ok}
use Rattle.protocol.specs.Answers.{event_number}
use Rattle.card.specs.Layout.{card_size}
use Rattle.card.specs.Sound.{is_sound}
use Rattle.events.specs.Events.{set_up}
use Rattle.frame.specs.Frame.{opcode_of}
use Rattle.demands.specs.Calls.{refused, step, names}
use Rattle.host.specs.Request.{request, set_parts}
use Rattle.demands.specs.Examples.{example_card, send, use_list, set_mode}
use Rattle.demands.proofs.Model.{model}

-- ---- demand 1 ----

sound-card : is_sound example_card ≡ true
unfolding model
sound-card = refl

unsound-card : is_sound (replicate (card_size 2) 0) ≡ false
unfolding model
unsound-card = refl

short-buffer : length (replicate {A = ℕ} 7 0) < 8
short-buffer = omega arith

-- opcode 0x0a is not in use on a fresh card
refused-command : refused (step example_card (send (request 0x0a 1 1 []))).1 ≡ true
unfolding model
refused-command = refl

setup-done : (set_up (replicate (card_size 2) 0) 2 (1 ∷ 1 ∷ []) 1 1 (replicate 16 0)).0 ≡ Ok tt
unfolding model
setup-done = refl

-- a card of no members
setup-refused : (set_up (replicate (card_size 2) 0) 0 [] 1 1 (replicate 16 0)).0 ≢ Ok tt
unfolding model
setup-refused e = let z : ◌≡◌ {A = ℕ} 4 0 = ap event_number e in omega arith

-- ---- integrity ----

-- all commands in use
abbrev used : List ℕ
used = (step example_card (use_list 0x3fc03)).0

-- a mode set for member 1 names it, and does change its record
names-member : names 1 (set_mode 1 1) ≡ true
unfolding model
names-member = refl

changes-member : get_or (step used (set_mode 1 1)).0 27 0 ≢ get_or used 27 0
unfolding model
changes-member = omega arith

uses-list : opcode_of (request 0x01 1 0 []) ≡ 0x01
unfolding model
uses-list = refl

sets-parts : opcode_of (set_parts 1 1 []) ≡ 0x10
unfolding model
sets-parts = refl
