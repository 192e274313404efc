-- The hypotheses of the round trip can be met, and the target differs from the source before it. Assumes nothing.
use mathlib.Core.Path.{◌≡◌, refl, sym, ◌∙◌}
use mathlib.Core.Logic.{◌≢◌}
use mathlib.Core.Bool.{true}
use mathlib.Core.List.{List, ◌∷◌}
use Prim.Native.Nat.{ℕ}
use native.Mathlib.Omega.{arith}
use lib.ListN.{get_or, replicate}
use Rattle.protocol.specs.declared.Mode.TheVariants.{Stopped}
use Rattle.protocol.specs.declared.ObjectKind.TheVariants.{Get, Set}
use Rattle.protocol.specs.Opcodes.{bit}
use Rattle.std.specs.Prelude.{Some}
use Rattle.member.specs.Objects.{lookup_of}
use Rattle.card.specs.declared.Setup.{Setup}
use Rattle.card.specs.Layout.{setup_of, in_use_of, is_member, member_in}
use Rattle.card.specs.Sound.{is_sound}
use Rattle.demands.specs.Calls.{card_store, step}
use Rattle.demands.specs.RoundTrip.{capture, Restorable, RestoredSame}
use Rattle.demands.specs.Examples.{example_card, use_list, create, set_mode}
use Rattle.demands.proofs.Model.{model}
use Rattle.demands.proofs.RoundTrip.{round-trip}

-- all commands are in use, and member 1 has a get object
reading : List ℕ
reading = (step (step example_card (use_list 0x3fc03)).0 (create 0 0)).0

-- the source has a queue of 256 with its addresses; the target has a set object too and is stopped
source : List ℕ
source = (step reading (card_store 1 0x104 0 (0 ∷ 1 ∷ replicate 30 0xaa))).0

pub target : List ℕ
target = (step (step reading (create 1 1)).0 (set_mode 1 1)).0

example : Unit {0}
unfolding model reading source target
example = tt

-- N=2, G=1, S=1, features all zero
abbrev setup : Setup
setup = record { members = 2; gets = 1; sets = 1; features = replicate 16 0 }

-- ---- each hypothesis ----

sound-source : is_sound source ≡ true
unfolding example
sound-source = refl

pub sound-target : is_sound target ≡ true
unfolding example
sound-target = refl

setup-source : setup_of source ≡ setup
unfolding example
setup-source = refl

pub setup-target : setup_of target ≡ setup
unfolding example
setup-target = refl

same-queues : (member_in source 1).queues ≡ (member_in target 1).queues
unfolding example
same-queues = refl

pub target-queues : (member_in target 1).queues ≡ 1
unfolding example
target-queues = refl

source-member : is_member source 1 ≡ true
unfolding example
source-member = refl

pub target-member : is_member target 1 ≡ true
unfolding example
target-member = refl

source-get : lookup_of (member_in source 1) 0 ≡ Some Get
unfolding example
source-get = refl

pub target-set : lookup_of (member_in target 1) 1 ≡ Some Set
unfolding example
target-set = refl

pub target-get : lookup_of (member_in target 1) 0 ≡ Some Get
unfolding example
target-get = refl

pub target-stopped : (member_in target 1).mode ≡ Stopped
unfolding example
target-stopped = refl

capture-in-use : bit (in_use_of source) 0x0f ≡ true
unfolding example
capture-in-use = refl

pub set-in-use : bit (in_use_of target) 0x10 ≡ true
unfolding example
set-in-use = refl

pub recapture-in-use : bit (in_use_of target) 0x0f ≡ true
unfolding example
recapture-in-use = refl

restorable : Restorable source 1 0 target 1 1 0
restorable = record {
  sound_source = sound-source;
  sound_target = sound-target;
  same_setup = setup-source ∙ sym setup-target;
  same_queues = same-queues;
  source_member = source-member;
  target_member = target-member;
  source_get = source-get;
  target_set = target-set;
  target_get = target-get;
  stopped = target-stopped;
  capture_in_use = capture-in-use;
  set_in_use = set-in-use;
  recapture_in_use = recapture-in-use;
}

-- ---- the claim at them ----

captures-differ : get_or (capture source 1 0 237) 190 0 ≢ get_or (capture target 1 0 237) 190 0
unfolding example
captures-differ = omega arith

restored : RestoredSame source 1 0 target 1 1 0 237 8 237
unfolding example
restored = round-trip source 1 0 target 1 1 0 restorable 237 8 237 (omega arith) (omega arith) (omega arith)
