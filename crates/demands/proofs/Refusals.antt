-- A refusal leaves the card as it stood, but for the two drops of request 6: every definition gives the card back where its
-- answer is not 0. Assumes nothing.
use Rattle.std.specs.Prelude.{Ok, Err, is_ok}
use mathlib.Core.Path.{◌≡◌, refl, ap}
use mathlib.Core.Bool.{Bool, true, false, not}
use mathlib.Core.List.{List}
use Prim.Native.Nat.{ℕ}
use borrow.Author.Tests.{eqb-true}
use Rattle.theory.specs.Logic.{when◌then◌else◌, unless◌answer◌then◌}
use Rattle.theory.proofs.Tests.{by_cases, unless-cases, and-false, never}
use Rattle.wire.specs.Le.{le, bytes, number}
use Rattle.protocol.specs.Answers.{Answer, EventAnswer, event_number}
use Rattle.card.specs.Sound.{is_sound}
use Rattle.events.specs.Events.{hand_back as hand_back_of, wipe as wipe_of, reset_card, store_in, store}
use Rattle.events.proofs.Cases.{if-done-cases, on-unsound, on-member-cases}
use Rattle.reply.specs.Reply.{head_of, reply_of}
use Rattle.admin.specs.Command.{ask_in, perform, respond}
use Rattle.demands.specs.Calls.{Call, command, hand_back, wipe, card_reset, card_store, restore_begin, restore_feed, restore_finish, restore_drop, message, Reply, written, answered, of_command, refused, step}
use Rattle.demands.specs.Claims.{after_refusal, unsound_reply, UnsoundRefused, RefusalsChangeNothing}
use Rattle.admin.proofs.Respond.{last_answer, respond-none, respond-cases}
use Rattle.staging.specs.Staging.{without_held, begin_of, feed_of, finish_of, drop_of}
use Rattle.staging.proofs.Refusals.{on-member-cases as restore-cases, on-open-cases, on-open-both, on-member-unsound, on-open-unsound}
use Rattle.message.proofs.Cases.{answer-unsound, no-data-keeps}

-- a refusal picks the card as it was
kept : (t : Bool) (next c : List ℕ) → not t ≡ true → (when t then next else c) ≡ c
unfolding when◌then◌else◌
kept true next c e = never e
kept false next c e = refl

-- the status is what the reply's first two bytes say
says-refused : (a : Answer) (result : List ℕ) → refused (written (reply_of a result)) ≡ true → not (is_ok a) ≡ true
unfolding refused reply_of head_of bytes number le
says-refused (Ok x) result e = cc
says-refused (Err a) result e = refl

-- what is to be shown of a command and of an event
Keeps : List ℕ → List ℕ × List ℕ → Type 0
Keeps c y = refused (written y.1) ≡ true → y.0 ≡ c

KeepsEvent : List ℕ → EventAnswer × List ℕ → Type 0
KeepsEvent c y = refused (answered (event_number y.0)) ≡ true → y.1 ≡ c

pub respond-keeps : (c r : List ℕ) (room : ℕ) → refused (written (respond c r room).1) ≡ true → (respond c r room).0 ≡ c
unfolding Keeps
respond-keeps c r room =
    respond-cases c r room (Keeps c) (λ e. refl)
    (λ h s e.
    let x = perform c r (ask_in c r) in
    kept (is_ok (last_answer room x)) x.card c (says-refused (last_answer room x) x.result e))

-- ---- a restore in fragments ----

KeepsRestore : List ℕ → ℕ × List ℕ → Type 0
KeepsRestore c y = refused (answered y.0) ≡ true → y.1 ≡ c

-- what is left is what a drop leaves
DropsAlike : ℕ × List ℕ → ℕ × List ℕ → Type 0
DropsAlike x y = refused (answered x.0) ≡ true → x.1 ≡ y.1

-- the first four bytes of a success are 0
done-zero : (a : Answer) (result : List ℕ) → is_ok a ≡ true → number 0 4 (reply_of a result) ≡ 0
unfolding reply_of head_of bytes number le
done-zero (Ok x) result e = refl
done-zero (Err a) result e = never e

four-refused : (a : Answer) (result : List ℕ) → refused (answered (number 0 4 (reply_of a result))) ≡ true → not (is_ok a) ≡ true
unfolding refused
four-refused a result e = by_cases (is_ok a) (λ t. let z = rw (done-zero a result t) at e in cc) (λ t. rw t)

FourKeep : List ℕ → List ℕ × List ℕ → Type 0
FourKeep c y = refused (answered (number 0 4 y.1)) ≡ true → y.0 ≡ c

respond-four : (c r : List ℕ) (room : ℕ) → refused (answered (number 0 4 (respond c r room).1)) ≡ true → (respond c r room).0 ≡ c
unfolding FourKeep
respond-four c r room =
    respond-cases c r room (FourKeep c) (λ e. refl)
    (λ h s e.
    let x = perform c r (ask_in c r) in
    kept (is_ok (last_answer room x)) x.card c (four-refused (last_answer room x) x.result e))

begin-keeps : (c : List ℕ) (m : ℕ) → KeepsRestore c (begin_of c m)
unfolding KeepsRestore begin_of refused
begin-keeps c m =
    restore-cases c m _ (KeepsRestore c) (λ a e. refl) (λ p. unless-cases (KeepsRestore c) _ _ _ (λ t e. refl) (λ t e. cc))

feed-drops : (c : List ℕ) (m : ℕ) (x : List ℕ) → DropsAlike (feed_of c m x) (drop_of c m)
unfolding DropsAlike feed_of drop_of refused
feed-drops c m x =
    on-open-both c m _ DropsAlike _ (λ a e. refl)
    (λ p. unless-cases (λ (y : ℕ × List ℕ). DropsAlike y (0, without_held c m)) _ _ _ (λ t e. refl) (λ t e. cc))

finish-drops : (c : List ℕ) (m id : ℕ) → DropsAlike (finish_of c m id) (drop_of c m)
unfolding DropsAlike finish_of drop_of
finish-drops c m id =
    on-open-both c m _ DropsAlike _ (λ a e. refl) (λ p e. ap (λ d. without_held d m) (respond-four c _ _ e))

drop_keeps : (c : List ℕ) (m : ℕ) → KeepsRestore c (drop_of c m)
unfolding KeepsRestore drop_of refused
drop_keeps c m = on-open-cases c m _ (KeepsRestore c) (λ a e. refl) (λ p e. cc)

-- ---- every call ----

pub refusals-change-nothing : RefusalsChangeNothing
unfolding step hand_back_of wipe_of reset_card store store_in refused KeepsEvent after_refusal KeepsRestore DropsAlike
refusals-change-nothing c (command r room) = respond-keeps c r _
refusals-change-nothing c (hand_back m) =
    on-member-cases c m _ (KeepsEvent c) (λ a d e. refl) (λ s h. unless-cases (KeepsEvent c) _ _ _ (λ t e. refl) (λ t e. cc))
refusals-change-nothing c (wipe m g) =
    on-member-cases c m _ (KeepsEvent c) (λ a d e. refl) (λ s h. unless-cases (KeepsEvent c) _ _ _ (λ t e. refl) (λ t e. cc))
refusals-change-nothing c (card_reset g) =
    unless-cases (KeepsEvent c) _ _ _ (λ t e. refl) (λ t e. cc)
refusals-change-nothing c (card_store m t s value) =
    on-member-cases c m _ (KeepsEvent c) (λ a d e. refl) λ u h.
    if-done-cases (KeepsEvent c) _ _ c (λ d e. refl) (λ d e. cc)
refusals-change-nothing c (restore_begin m) = begin-keeps c m
refusals-change-nothing c (restore_feed m x) = feed-drops c m x
refusals-change-nothing c (restore_finish m id) = finish-drops c m id
refusals-change-nothing c (restore_drop m) = drop_keeps c m
refusals-change-nothing c (message x room) = λ e. no-data-keeps c x room (eqb-true _ _ e)

-- a card that is not sound stays, and says so
pub unsound-refused : UnsoundRefused
unfolding step hand_back_of wipe_of reset_card store begin_of feed_of finish_of drop_of unless◌answer◌then◌ unsound_reply
unsound-refused c (command r room) e = ap of_command (respond-none c r _ (rw e (and-false _)))
unsound-refused c (hand_back m) e = rw (on-unsound c m _ e)
unsound-refused c (wipe m g) e = rw (on-unsound c m _ e)
unsound-refused c (card_reset g) e = rw e
unsound-refused c (card_store m t s value) e = rw (on-unsound c m _ e)
unsound-refused c (restore_begin m) e = rw (on-member-unsound c m _ e)
unsound-refused c (restore_feed m x) e = rw (on-open-unsound c m _ e)
unsound-refused c (restore_finish m id) e = rw (on-open-unsound c m _ e)
unsound-refused c (restore_drop m) e = rw (on-open-unsound c m _ e)
unsound-refused c (message x room) e = rw (answer-unsound c x room e)

pub unsound-stays : (c : List ℕ) (x : Call) → is_sound c ≡ false → (step c x).0 ≡ c
unsound-stays c x e = ap (λ (y : List ℕ × Reply). y.0) (unsound-refused c x e)
