-- The hypotheses of isolation can be met: two cards and two sequences that do differ, and the claim at them. Assumes nothing.
use mathlib.Core.Path.{◌≡◌, refl, sym, ◌∙◌}
use mathlib.Core.Logic.{◌≢◌}
use mathlib.Core.Bool.{true}
use mathlib.Core.List.{List, [], ◌∷◌, ◌++◌}
use Prim.Native.Nat.{ℕ, ◌+◌}
use native.Mathlib.Omega.{arith}
use lib.ListN.{length, get_or, take, drop, replicate}
use Rattle.theory.specs.Bytes.{same}
use Rattle.theory.proofs.Tests.{same_true}
use Rattle.theory.specs.Machine.{trace, run, seen, visible}
use Rattle.card.specs.Layout.{record_size, record_at, is_member, member_in, is_marked}
use Rattle.card.specs.Sound.{is_sound}
use Rattle.demands.specs.Calls.{Call, hand_back, wipe, card_store, answered, step, names, of_wipe}
use Rattle.host.specs.Request.{get_all}
use Rattle.demands.specs.Claims.{DifferAtMost}
use Rattle.demands.specs.Examples.{example_card, send, use_list, create, set_mode}
use Rattle.demands.proofs.Model.{model}
use Rattle.demands.proofs.Isolation.{isolation}

-- the card after all commands are in use, and after member 1 has a get object and is stopped, too
card₁ : List ℕ
card₁ = (step example_card (use_list 0x3fc03)).0

card₂ : List ℕ
card₂ = (step (step card₁ (create 0 0)).0 (set_mode 1 1)).0

-- a queue address of member 1 is stored; member 2 is stopped in both. Member 1 is handed back: a command for it is refused, and
-- a card store for it works. Then it is wiped and asked again
calls₁ : List Call
calls₁ = card_store 1 0x104 0 (0 ∷ 1 ∷ replicate 30 0xaa) ∷ set_mode 2 1 ∷ hand_back 1 ∷ create 0 0 ∷ []

calls₂ : List Call
calls₂ = set_mode 2 1 ∷ create 1 1 ∷ send (get_all 1 0) ∷ hand_back 1 ∷ card_store 1 0x103 0 (5 ∷ []) ∷ []

later : List Call
later = create 0 0 ∷ send (get_all 1 0) ∷ []

example : Unit {0}
unfolding model card₁ card₂ calls₁ calls₂ later
example = tt

-- ---- each hypothesis ----

sound₁ : is_sound card₁ ≡ true
unfolding example
sound₁ = refl

sound₂ : is_sound card₂ ≡ true
unfolding example
sound₂ = refl

member-here : is_member card₁ 1 ≡ true
unfolding example
member-here = refl

same_after : same (drop (record_at 1 + record_size) card₁) (drop (record_at 1 + record_size) card₂) ≡ true
unfolding example
same_after = refl

same-before : take (record_at 1) card₁ ≡ take (record_at 1) card₂
unfolding example
same-before = refl

same-but-member : DifferAtMost 1 card₁ card₂
same-but-member = record { before = same-before; after = same_true _ _ same_after }

same-mark : is_marked card₁ 1 ≡ is_marked card₂ 1
unfolding example
same-mark = refl

queues₁ : (member_in card₁ 1).queues ≡ 1
unfolding example
queues₁ = refl

queues₂ : (member_in card₂ 1).queues ≡ 1
unfolding example
queues₂ = refl

wipe-answers : (step (run step card₁ calls₁) (wipe 1 7)).1 ≡ answered 0
unfolding example
wipe-answers = refl

same-struck-out : visible (names 1) calls₁ ≡ visible (names 1) calls₂
unfolding example
same-struck-out = refl

-- ---- what differs, what is seen, and the claim at them ----

cards-differ : get_or card₁ 27 0 ≢ get_or card₂ 27 0
unfolding example
cards-differ = omega arith

sequences-differ : length calls₁ ≢ length calls₂
unfolding example
sequences-differ = omega arith

-- two replies before the wipe, the wipe, and two calls after it
sees-five : length (seen (names 1) (length calls₁) (trace step card₁ (calls₁ ++ wipe 1 7 ∷ later))) ≡ 5
unfolding example
sees-five = refl

isolated : seen (names 1) (length calls₁) (trace step card₁ (calls₁ ++ wipe 1 7 ∷ later))
    ≡ seen (names 1) (length calls₂) (trace step card₂ (calls₂ ++ wipe 1 7 ∷ later))
isolated =
    isolation card₁ card₂ sound₁ sound₂ 1 member-here same-but-member same-mark (queues₁ ∙ sym queues₂)
    calls₁ calls₂ same-struck-out (wipe 1 7) (rw wipe-answers of_wipe) later
