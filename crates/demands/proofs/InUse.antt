-- REQUEST 2: empty list use leaves nothing in use, and then no command is carried out until a reset of the card. Assumes nothing.
use Rattle.std.specs.Prelude.{Result, Ok, Err}
use Rattle.protocol.specs.declared.Refusal.{Refusal}
use mathlib.Core.Path.{◌≡◌, refl, sym, ◌∙◌}
use mathlib.Core.Logic.{◌≢◌}
use mathlib.Core.Bool.{true}
use mathlib.Core.List.{List, []}
use Prim.Native.Nat.{ℕ, ◌≤◌}
use native.Mathlib.Omega.{arith}
use borrow.Author.Tests.{eq-eqb}
use Rattle.theory.specs.Logic.{when◌then◌else◌, unless◌answer◌then◌, ◌and◌, ◌or◌, within}
use Rattle.theory.proofs.Tests.{both, unless-cases, or-true, never}
use Rattle.wire.specs.Le.{le, bytes, number}
use Rattle.protocol.specs.declared.Refusal.TheVariants.{BadLength, BadGroup, BadOpcode}
use Rattle.protocol.specs.Opcodes.{opcode_rows, opcode_row, supported, bit, names_member, supported_only}
use Rattle.protocol.proofs.Masks.{bit-out}
use Rattle.frame.specs.declared.Ask.{Ask}
use Rattle.frame.specs.declared.Ask.TheVariants.{UseList}
use Rattle.frame.specs.Frame.{opcode_of}
use Rattle.frame.specs.Fields.{use_in, fields_of}
use Rattle.frame.specs.Ask.{usable, reaches, attended, framed_of, ask_of}
use Rattle.card.specs.Layout.{in_use_of}
use Rattle.card.specs.Sound.{is_sound}
use Rattle.card.proofs.HeaderLaws.{same-use, use-same}
use Rattle.card.proofs.ConfigurationLaws.{use-with-configuration}
use Rattle.card.proofs.SoundLaws.{sound-of, sound-long}
use Rattle.reply.specs.Reply.{head_of}
use Rattle.reply.proofs.Reply.{reply-empty, final-empty}
use Rattle.admin.specs.Command.{ask_in, perform}
use Rattle.admin.proofs.Respond.{ended, respond-is, respond-cases}
use Rattle.host.specs.Request.{request}
use Rattle.host.proofs.Request.{length-request, opcode-request, group-request, data-request}
use Rattle.message.proofs.Cases.{card-cases}
use Rattle.demands.specs.Calls.{Call, command, hand_back, wipe, card_reset, card_store, restore_begin, restore_feed, restore_finish, restore_drop, message, written, refused, step, names}
use Rattle.demands.specs.Lengths.{NothingInUse}
use Rattle.demands.proofs.Refusals.{respond-keeps}
use Rattle.demands.proofs.Integrity.{integrity}

-- ---- every command is refused ----

-- with nothing in use no request comes past step 4
none-asked : (c r : List ℕ) → in_use_of c ≡ 0 → (P : Result Ask Refusal → Type 0) → P (Err BadLength) → P (Err BadGroup) → P (Err BadOpcode) → P (ask_in c r)
unfolding ask_in ask_of framed_of usable
none-asked c r e P f g k =
    unless-cases P _ _ _ (λ t. f) λ t.
    unless-cases P _ _ _ (λ t. g) λ t.
    unless-cases P _ _ _ (λ t. k) λ t.
    let b : bit (in_use_of c) (opcode_of r) ≡ true = (both _ _ t).1 in
    never (sym (bit-out 0 0 (opcode_of r) (omega arith) (omega arith)) ∙ rw e at b)

blocked : (c r : List ℕ) (room : ℕ) → in_use_of c ≡ 0 → refused (step c (command r room)).1 ≡ true
unfolding step perform refused head_of bytes number le
blocked c r room e =
    respond-cases c r room (λ (y : List ℕ × List ℕ). refused (written y.1) ≡ true) refl
    (λ h s.
    none-asked c r e (λ x. refused (written (ended c room (perform c r x)).1) ≡ true)
    (rw (final-empty (Err BadLength) room h, reply-empty (Err BadLength)))
    (rw (final-empty (Err BadGroup) room h, reply-empty (Err BadGroup)))
    (rw (final-empty (Err BadOpcode) room h, reply-empty (Err BadOpcode))))

-- ---- no other call changes the list in use ----

-- a call that names m
named-use : (c : List ℕ) (m : ℕ) (x : Call) → names m x ≡ true → in_use_of (step c x).0 ≡ in_use_of c
named-use c m x n = same-use (step c x).0 c m (integrity.named c m x n).before

lasting : (c : List ℕ) (x : Call) → in_use_of c ≡ 0 → ((generation : ℕ) → x ≢ card_reset generation) → in_use_of (step c x).0 ≡ 0
unfolding step names
lasting c (command r room) e n = rw (respond-keeps c r room (blocked c r room e)) e
lasting c (hand_back m) e n = same-use (step c (hand_back m)).0 c m (integrity.handed_back c m).before ∙ e
lasting c (wipe m g) e n = same-use (step c (wipe m g)).0 c m (integrity.wiped c m g).before ∙ e
lasting c (card_reset g) e n = absurd (n g refl)
lasting c (card_store m t s value) e n = named-use c m (card_store m t s value) (eq-eqb m m refl) ∙ e
lasting c (restore_begin m) e n = named-use c m (restore_begin m) (eq-eqb m m refl) ∙ e
lasting c (restore_feed m x) e n = named-use c m (restore_feed m x) (eq-eqb m m refl) ∙ e
lasting c (restore_finish m id) e n = named-use c m (restore_finish m id) (eq-eqb m m refl) ∙ e
lasting c (restore_drop m) e n = named-use c m (restore_drop m) (eq-eqb m m refl) ∙ e
lasting c (message x room) e n =
    card-cases c x (λ d. in_use_of d ≡ 0) e room (λ k y g s h t. use-with-configuration c k y g ∙ e)

-- ---- empty list use ----

asked-empty : (c : List ℕ) (m : ℕ) → bit (in_use_of c) 0x01 ≡ true → ask_in c (request 0x01 1 m []) ≡ Ok (UseList 0)
unfolding ask_in ask_of framed_of usable reaches attended fields_of use_in supported_only supported names_member opcode_row opcode_rows le when◌then◌else◌
    unless◌answer◌then◌ ◌and◌ ◌or◌ within
asked-empty c m b =
    rw (length-request 0x01 1 m [], group-request 0x01 1 m [] (omega arith), opcode-request 0x01 1 m [] (omega arith), b, data-request) (rw or-true)

empties : (c : List ℕ) (m room : ℕ) → is_sound c ≡ true → bit (in_use_of c) 0x01 ≡ true → 8 ≤ room → in_use_of (step c (command (request 0x01 1 m []) room)).0 ≡ 0
unfolding step perform when◌then◌else◌
empties c m room s b h =
    rw (respond-is c (request 0x01 1 m []) room h s, asked-empty c m b, final-empty (Ok tt) room h)
    (use-same c 0 (sound-long c (sound-of c s)) (omega arith))

pub nothing-in-use : NothingInUse
nothing-in-use = record { emptied = empties; blocks = blocked; lasts = lasting }
