-- Programs of each kind of specs/WrongPrograms.antt: the card with its commands answered wrongly. Assumes nothing.
use mathlib.Core.Path.{◌≡◌, refl, ap}
use mathlib.Core.Logic.{◌≢◌}
use mathlib.Core.Bool.{true}
use mathlib.Core.List.{List}
use Prim.Native.Nat.{ℕ}
use native.Mathlib.Omega.{arith}
use lib.Dec.{eqb}
use lib.ListN.{replicate}
use Rattle.theory.specs.Logic.{when◌then◌else◌}
use Rattle.theory.proofs.Tests.{by_cases}
use Rattle.wire.specs.Le.{number}
use Rattle.frame.specs.Frame.{opcode_of}
use Rattle.demands.specs.Calls.{Call, command, hand_back, wipe, card_reset, card_store, restore_begin, restore_feed, restore_finish, restore_drop, message, Reply, written, answered, responded, refused, step}
use Rattle.demands.specs.Examples.{example_card, refuses, succeeds, gives, a_number, metadata, get_selected, size_of}
use Rattle.demands.specs.WrongPrograms.{Passes}
use Rattle.demands.proofs.WrongPrograms.{obeyed, reply}
use Rattle.demands.proofs.Model.{model}

-- the card, with f in place of its commands; f is given what the card would do
Answering : Type 0
Answering = List ℕ → List ℕ → List ℕ × Reply → List ℕ × Reply

answering : Answering → List ℕ → Call → List ℕ × Reply
unfolding Answering
answering f c (command r room) = f c r (step c (command r room))
answering f c (hand_back m) = step c (hand_back m)
answering f c (wipe m g) = step c (wipe m g)
answering f c (card_reset g) = step c (card_reset g)
answering f c (card_store m t s value) = step c (card_store m t s value)
answering f c (restore_begin m) = step c (restore_begin m)
answering f c (restore_feed m x) = step c (restore_feed m x)
answering f c (restore_finish m id) = step c (restore_finish m id)
answering f c (restore_drop m) = step c (restore_drop m)
answering f c (message x room) = step c (message x room)

refusing : List ℕ → Call → List ℕ × Reply
unfolding Answering
refusing = answering (λ c r x. (c, refuses 22 2))

fixed : List ℕ → Call → List ℕ × Reply
unfolding Answering
fixed = answering (λ c r x. (x.0, succeeds))

unchanging : List ℕ → Call → List ℕ × Reply
unfolding Answering
unchanging = answering (λ c r x. (c, x.1))

-- metadata is always of ten parts, and a selection of one of 42 bytes
ten_parts : List ℕ → Call → List ℕ × Reply
unfolding Answering
ten_parts = answering (λ c r x. when eqb (opcode_of r) 0x0e then (c, gives (a_number 10)) else x)

one_byte_more : List ℕ → Call → List ℕ × Reply
unfolding Answering
one_byte_more = answering (λ c r x. when eqb (opcode_of r) 0x0f then (c, gives (replicate 42 0)) else x)

-- whether a command came, and the card
once : ℕ × List ℕ → Call → (ℕ × List ℕ) × Reply
once s (command r room) =
    let x = step s.1 (command r room) in
    when eqb s.0 0 then ((1, x.0), x.1) else (s, refuses 22 2)
once s (hand_back m) = let x = step s.1 (hand_back m) in ((s.0, x.0), x.1)
once s (wipe m g) = let x = step s.1 (wipe m g) in ((s.0, x.0), x.1)
once s (card_reset g) = let x = step s.1 (card_reset g) in ((s.0, x.0), x.1)
once s (card_store m t k value) = let x = step s.1 (card_store m t k value) in ((s.0, x.0), x.1)
once s (restore_begin m) = let x = step s.1 (restore_begin m) in ((s.0, x.0), x.1)
once s (restore_feed m y) = let x = step s.1 (restore_feed m y) in ((s.0, x.0), x.1)
once s (restore_finish m id) = let x = step s.1 (restore_finish m id) in ((s.0, x.0), x.1)
once s (restore_drop m) = let x = step s.1 (restore_drop m) in ((s.0, x.0), x.1)
once s (message y room) = let x = step s.1 (message y room) in ((s.0, x.0), x.1)

programs : Unit {0}
unfolding model Answering answering refusing fixed unchanging ten_parts one_byte_more once
programs = tt

-- ---- each is of its kind ----

refuses-each : (s r : List ℕ) (room : ℕ) → refused (refusing s (command r room)).1 ≡ true
unfolding programs
refuses-each s r room = refl

fixed-reply : (s r : List ℕ) (room : ℕ) → (fixed s (command r room)).1 ≡ succeeds
unfolding programs
fixed-reply s r room = refl

never-changes : (s r : List ℕ) (room : ℕ) → (unchanging s (command r room)).0 ≡ s
unfolding programs
never-changes s r room = refl

-- this one fails B7 too
unchanging-fails : Passes unchanging example_card 7 → ⊥
unfolding programs
unchanging-fails p = obeyed refl (reply unchanging example_card 7 0 p) refl

first-only : (s : ℕ × List ℕ) (q r : List ℕ) (i j : ℕ) → refused (once (once s (command q i)).0 (command r j)).1 ≡ true
unfolding programs
first-only s q r i j = by_cases (eqb s.0 0) (λ e. rw e) (λ e. rw (e, e))

-- the number that a reply gives
number_in : Reply → ℕ
number_in (written bs) = number 8 4 bs
number_in (answered n) = 0
number_in (responded bs) = 0

made-up-count : (s : List ℕ) → (ten_parts s (metadata 0 1)).1 ≢ gives (a_number 9)
unfolding programs number_in
made-up-count s e = let z : ◌≡◌ {A = ℕ} 10 9 = ap number_in e in omega arith

made-up-size : (s : List ℕ) → (ten_parts s (metadata 0 0)).1 ≢ gives (a_number 229)
unfolding programs number_in
made-up-size s e = let z : ◌≡◌ {A = ℕ} 10 229 = ap number_in e in omega arith

made-up-bytes : (s asked : List ℕ) → size_of (one_byte_more s (get_selected 0 asked)).1 ≢ 49
unfolding programs
made-up-bytes s asked = omega arith
