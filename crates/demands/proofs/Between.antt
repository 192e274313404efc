-- REQUEST 10: between the two halves of a reset a marked member is idle, calls for it are refused, and card stores work. Assumes
-- nothing.
use Rattle.std.specs.Prelude.{Err}
use mathlib.Core.Path.{◌≡◌, refl, ap, sym, ◌∙◌}
use mathlib.Core.Bool.{true, false}
use mathlib.Core.List.{List, [], ◌∷◌, map}
use Prim.Native.Nat.{ℕ, zero, suc, ◌≤◌}
use borrow.Author.Tests.{eqb-true}
use lib.Dec.{eqb, leb}
use lib.ListN.{length, get_or}
use Rattle.std.specs.Prelude.{Ok, Err, is_ok, Option, Some, None}
use Rattle.theory.specs.Logic.{when◌then◌else◌, unless◌answer◌then◌, ◌or◌, within}
use Rattle.theory.proofs.Tests.{both}
use Rattle.protocol.specs.declared.Refusal.TheVariants.{Marked}
use Rattle.protocol.specs.Answers.{EventAnswer, event_number}
use Rattle.protocol.specs.Opcodes.{names_member}
use Rattle.frame.specs.Frame.{opcode_of, group_of, target_of}
use Rattle.frame.specs.Ask.{usable, reaches, attended, framed_of, ask_of}
use Rattle.inventory.specs.Inventory.{selector_of}
use Rattle.values.specs.Apply.{storable}
use Rattle.values.proofs.Kept.{done-allowed}
use Rattle.objects.specs.declared.ObjectRecord.{ObjectRecord}
use Rattle.objects.specs.declared.Slot.{Slot}
use Rattle.objects.specs.declared.Slot.TheVariants.{Free, Get, Set}
use Rattle.objects.specs.Objects.{slot_byte, found_in, object_byte, free, all_up_to}
use Rattle.member.specs.declared.Member.{Member}
use Rattle.member.specs.Member.{handed_back, with_part}
use Rattle.member.specs.Objects.{lookup_of}
use Rattle.member.proofs.Sound.{sound-part, sound-handed-back}
use Rattle.card.specs.Layout.{in_use_of, is_member, member_in, with_member, is_marked, with_holding, no_bytes, HasRecord}
use Rattle.card.specs.Sound.{is_sound}
use Rattle.card.proofs.SoundLaws.{sound-of, SoundIn, is-sound, sound-has, sound-member-in, sound-with-member}
use Rattle.card.proofs.MemberLaws.{setup-with-member, member-same, member-over, member-with-holding, holding-swap}
use Rattle.card.proofs.MarkLaws.{marked-is, mark-put}
use Rattle.events.specs.Events.{with_handed_back, if_done, store_in, store}
use Rattle.events.proofs.Cases.{on-sound}
use Rattle.reply.specs.Reply.{head_of}
use Rattle.reply.proofs.Reply.{reply-empty, final-empty}
use Rattle.admin.specs.Command.{ask_in, perform, respond}
use Rattle.admin.proofs.Respond.{respond-is}
use Rattle.staging.specs.Staging.{begin_of, feed_of, finish_of, drop_of}
use Rattle.staging.proofs.Refusals.{on-member-marked, on-open-marked}
use Rattle.message.proofs.Cases.{answer-marked}
use Rattle.demands.specs.Calls.{command, hand_back, answered, of_restore, of_message, step, names}
use Rattle.demands.specs.Halves.{Between, MarkedRefused, StoredAlike, StoresWork, MarkedIdle}
use Rattle.demands.proofs.EventMask.{back-setup}
use Rattle.demands.proofs.Halves.{back-card, back-sound}
use Rattle.protocol.specs.declared.ObjectKind.{ObjectKind}

-- what a request that names m says
named-frame : (m : ℕ) (r : List ℕ) (room : ℕ) → names m (command r room) ≡ true
    → (within 24 4096 (length r) ≡ true) × (eqb (group_of r) 1 ≡ true) × (names_member (opcode_of r) ≡ true) × (eqb (target_of r) m ≡ true)
unfolding names
named-frame m r room n =
    let p = both _ _ n in
    let q = both _ _ p.0 in
    let w = both _ _ q.0 in
    (w.0, w.1, q.1, p.1)

-- a member that is marked is one of the card's
marked-here : (c : List ℕ) (m : ℕ) → is_marked c m ≡ true → is_member c m ≡ true
unfolding is_marked
marked-here c m u = (both _ _ u).0

module _ (c : List ℕ) (m : ℕ) (s : is_sound c ≡ true) (u : is_marked c m ≡ true) where
  abbrev here : is_member c m ≡ true
  here = marked-here c m u

  asked-marked : (r : List ℕ) (room : ℕ) → names m (command r room) ≡ true → usable (in_use_of c) (opcode_of r) ≡ true → ask_in c r ≡ Err Marked
  unfolding ask_in ask_of framed_of reaches attended unless◌answer◌then◌ ◌or◌
  asked-marked r room n v =
      let p = named-frame m r room n in
      rw (p.0, p.1, v, p.2, eqb-true (target_of r) m p.3, here, u)

  command-refused : (r : List ℕ) (room : ℕ) → names m (command r room) ≡ true → usable (in_use_of c) (opcode_of r) ≡ true → 8 ≤ room
      → respond c r room ≡ (c, head_of (Err Marked))
  unfolding perform when◌then◌else◌
  command-refused r room n v l = rw (respond-is c r room l s, asked-marked r room n v, final-empty (Err Marked) room l, reply-empty)

  between : Between c m
  unfolding step names begin_of feed_of finish_of drop_of
  between = record {
    commands = λ r room n v l. rw (command-refused r room n v l);
    begins = ap of_restore (on-member-marked c m _ s here u);
    feeds = λ x. ap of_restore (on-open-marked c m _ s here u);
    finishes = λ id. ap of_restore (on-open-marked c m _ s here u);
    drops = ap of_restore (on-open-marked c m _ s here u);
    messages = λ x room n. ap of_message (answer-marked c x m room u n);
  }

pub marked-refused : MarkedRefused
marked-refused = between

-- ---- a marked member ----

-- an object byte of 0 is that of no object
none_found : (os : List ObjectRecord) → all_up_to 0 (map object_byte os) ≡ true → (id : ℕ) → found_in (get_or os id free).slot ≡ None
unfolding all_up_to
none_found [] e id = refl
none_found (o ∷ os) e (suc id) = none_found os (both _ _ e).1 id
none_found (o ∷ os) e zero = free-found o.slot (both _ _ e).0
  where
    free-found : (x : Slot) → leb (slot_byte x) 0 ≡ true → found_in x ≡ None
    free-found Free l = refl
    free-found Get l = cc
    free-found Set l = cc

pub marked-idle : MarkedIdle
unfolding lookup_of
marked-idle c m s u =
    let k = marked-here c m u in
    let e = (sound-member-in c (sound-of c s) m k).mark (sym (marked-is c m k) ∙ u) in
    record { stopped = e.stopped; no_object = none_found (member_in c m).objects e.no_objects; no_place = e.no_place }

-- ---- a member that is handed back, and a card store for it ----

pub back-member : (c : List ℕ) (m : ℕ) → is_sound c ≡ true → is_member c m ≡ true → member_in (with_handed_back c m) m ≡ handed_back (member_in c m)
unfolding with_handed_back
back-member c m s h =
    let x = handed_back (member_in c m) in
    let r = sound-has c (sound-of c s) m h in
    member-with-holding (with_member c m x) m no_bytes m r.low r.low
    ∙ member-same c m x r (sound-handed-back _ _ _ (member_in c m) (sound-member-in c (sound-of c s) m h)).shaped

module _ (c : List ℕ) (m : ℕ) (s : is_sound c ≡ true) (h : is_member c m ≡ true) (u : is_marked c m ≡ false) where
  abbrev x : Member
  x = member_in c m

  has : HasRecord c m
  has = sound-has c (sound-of c s) m h

  sound-x : SoundIn c x
  sound-x = sound-member-in c (sound-of c s) m h

  -- a member that is sound is put, not marked, and handed back
  back-over : (z : Member) → SoundIn c z → z.marked ≡ false → (step (with_member c m z) (hand_back m)).0 ≡ with_holding (with_member c m (handed_back z)) m no_bytes
  unfolding with_handed_back
  back-over z sz v =
      let w = is-sound _ (sound-with-member c m z (sound-of c s) has.low sz) in
      let i : is_member (with_member c m z) m ≡ true = rw setup-with-member h in
      let n : is_marked (with_member c m z) m ≡ false = marked-is _ m i ∙ mark-put c m z has ∙ v in
      back-card (with_member c m z) m 0 w i n
      ∙ rw (member-same c m z has sz.shaped, member-over c m z (handed_back z) (sound-handed-back _ _ _ z sz).shaped)

  module _ (t k : ℕ) (value : List ℕ) where
    abbrev a : EventAnswer
    a = storable x.queues t (selector_of t k) value

    abbrev z : Member
    z = with_part x t (selector_of t k) value

    -- a store before the hand back, and one after it, that answer v
    abbrev first : EventAnswer → EventAnswer × List ℕ
    first v = if_done v (Ok tt, with_member c m z) c

    abbrev later : EventAnswer → EventAnswer × List ℕ
    later v = if_done v (Ok tt, with_member (with_handed_back c m) m (handed_back z)) (with_handed_back c m)

    stored-first : store c m t k value ≡ first a
    unfolding store store_in unless◌answer◌then◌
    stored-first = rw (on-sound c m _ s, h)

    stored-later : store (with_handed_back c m) m t k value ≡ later a
    unfolding store store_in unless◌answer◌then◌
    stored-later =
        let i : is_member (with_handed_back c m) m ≡ true = rw back-setup h in
        rw (on-sound (with_handed_back c m) m _ (back-sound c m 0 s h u), i, back-member c m s h)

    later-over : is_ok a ≡ true → with_member (with_handed_back c m) m (handed_back z) ≡ (step (with_member c m z) (hand_back m)).0
    unfolding with_handed_back
    later-over d =
        let sz : SoundIn c z = sound-part _ _ _ x sound-x t (selector_of t k) value (done-allowed _ t (selector_of t k) value d) in
        holding-swap (with_member c m (handed_back x)) m no_bytes (handed_back z)
        ∙ rw (member-over c m (handed_back x) (handed_back z) (sound-handed-back _ _ _ z sz).shaped)
        (sym (back-over z sz (sym (marked-is c m h) ∙ u)))

    later-card : (v : EventAnswer) → v ≡ a → (later v).1 ≡ (step (first v).1 (hand_back m)).0
    unfolding if_done
    later-card (Ok x) e = later-over (ap is_ok (sym e))
    later-card (Err r) e = sym (back-card c m 0 s h u)

    later-answer : (v : EventAnswer) → (later v).0 ≡ (first v).0
    unfolding if_done
    later-answer (Ok x) = refl
    later-answer (Err r) = refl

    stored-alike : StoredAlike c m t k value
    unfolding step
    stored-alike = record {
      answer = rw (back-card c m 0 s h u, stored-later, stored-first) (ap (λ (y : EventAnswer). answered (event_number y)) (later-answer a));
      card = rw (back-card c m 0 s h u, stored-later, stored-first) (later-card a refl);
    }

pub stores-work : StoresWork
stores-work = stored-alike
