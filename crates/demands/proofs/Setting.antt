-- A member of a sound card: what a full capture of it gives, and what setting a list leaves. Assumes nothing.
use Rattle.std.specs.Prelude.{Ok}
use mathlib.Core.Path.{◌≡◌, refl, ◌∙◌}
use mathlib.Core.Bool.{true, false}
use mathlib.Core.List.{List, [], ◌++◌}
use Prim.Native.Nat.{ℕ, ◌+◌, ◌^◌, ◌≤◌, ◌<◌}
use native.Mathlib.Omega.{arith}
use lib.ListN.{length, take, drop}
use borrow.Author.Tests.{le-leb, lt-ltb}
use Rattle.theory.specs.Logic.{when◌then◌else◌, unless◌answer◌then◌, ◌and◌, ◌or◌}
use Rattle.theory.proofs.Tests.{or-true, within_low}
use Rattle.wire.specs.Le.{bytes}
use Rattle.protocol.specs.declared.ObjectKind.{ObjectKind}
use Rattle.protocol.specs.declared.ObjectKind.TheVariants.{Get, Set}
use Rattle.protocol.specs.declared.ReadOp.TheVariants.{GetAll}
use Rattle.protocol.specs.Opcodes.{bit}
use Rattle.parts.specs.declared.ListForm.TheVariants.{Parts}
use Rattle.parts.specs.List.{parts_of, longest_list}
use Rattle.rules.specs.Rules.{cause_of, is_accepted}
use Rattle.values.specs.Apply.{applied}
use Rattle.capture.specs.Capture.{capture_of}
use Rattle.std.specs.Prelude.{Some}
use Rattle.member.specs.declared.Member.{Member}
use Rattle.member.specs.Objects.{lookup_of}
use Rattle.member.specs.Member.{features_in, with_values}
use Rattle.member.proofs.Sound.{sound-applied}
use Rattle.member.proofs.Live.{live_below, live-unmarked}
use Rattle.changes.specs.Changes.{set_parts_of}
use Rattle.changes.proofs.Allowed.{accepted-allowed}
use Rattle.reads.specs.Reads.{through_get}
use Rattle.card.specs.Layout.{setup_of, in_use_of, is_member, member_in, with_member, is_marked}
use Rattle.card.specs.Sound.{is_sound}
use Rattle.card.proofs.MemberLaws.{setup-with-member, use-with-member, member-same, member-over}
use Rattle.card.proofs.MarkLaws.{marked-is}
use Rattle.card.proofs.SoundLaws.{Sound, SoundIn, sound-of, is-sound, sound-has, sound-member-in, sound-with-member}
use Rattle.reply.specs.Result.{result_of}
use Rattle.reply.specs.Reply.{head_of, final_of, reply_of}
use Rattle.admin.specs.Command.{ask_in, effect, perform, respond}
use Rattle.frame.specs.declared.Ask.TheVariants.{Read}
use Rattle.frame.specs.Ask.{reaches, attended}
use Rattle.host.specs.declared.Command.TheVariants as host
use Rattle.host.specs.Request.{get_all}
use Rattle.host.proofs.Request.{request-long}
use Rattle.demands.specs.Host.{inside}
use Rattle.demands.specs.RoundTrip.{capture}
use Rattle.admin.proofs.Respond.{respond-is}
use Rattle.host.proofs.Asked.{laid}
use Rattle.staging.proofs.PartsSet.{parts_set_of, respond-parts-set}
use Rattle.demands.proofs.Taken.{taken}
use Rattle.member.proofs.Record.{Shaped}
use Rattle.demands.specs.Lists.{Settable, set_list}

-- a command with a result that succeeds and has room
respond-done : (c r : List ℕ) (room : ℕ) (result : List ℕ) → is_sound c ≡ true
    → perform c r (ask_in c r) ≡ effect (Ok tt) c result → 8 + length result ≤ room → (respond c r room).1 ≡ head_of (Ok tt) ++ result
unfolding final_of reply_of when◌then◌else◌ unless◌answer◌then◌
respond-done c r room result s e h =
    rw (respond-is c r room (omega arith) s, e, le-leb (8 + length result) room h)

-- member m of a sound card, with a live object
pub record Reached (c : List ℕ) (m : ℕ) : Type 0 where
  pub sound : is_sound c ≡ true
  pub here : is_member c m ≡ true

module _ (c : List ℕ) (m : ℕ) (x : Reached c m) where
  pub facts : Sound c
  facts = sound-of c x.sound

  pub member : SoundIn c (member_in c m)
  member = sound-member-in c facts m x.here

  ids : (setup_of c).gets + (setup_of c).sets ≤ 16
  ids = omega (arith, facts.numbers.few_gets, facts.numbers.few_sets)

  -- an id of a live object is valid
  pub valid : (i : ℕ) (k : ObjectKind) → lookup_of (member_in c m) i ≡ Some k → i < (setup_of c).gets + (setup_of c).sets
  valid i k e = live_below _ _ _ (member_in c m) i k member e

  pub small : (i : ℕ) → i < (setup_of c).gets + (setup_of c).sets → i < 256 ^ 4
  small i h = omega (arith, ids)

  reached : (op : ℕ) → reaches (setup_of c).members op m ≡ true
  unfolding reaches
  reached op = rw x.here (or-true _)

  -- nor is the member marked
  pub unmarked : (i : ℕ) (k : ObjectKind) → lookup_of (member_in c m) i ≡ Some k → is_marked c m ≡ false
  unmarked i k e = marked-is c m x.here ∙ live-unmarked _ _ _ (member_in c m) i k member e

  -- the request of a full capture is taken
  get-taken : (i : ℕ) → lookup_of (member_in c m) i ≡ Some Get → bit (in_use_of c) 0x0f ≡ true → ask_in c (get_all m i) ≡ Ok (Read m (GetAll i))
  unfolding inside attended ◌and◌ ◌or◌ laid
  get-taken i e u =
      (taken c (host.Get m i 1) [] (record {
        sound = x.sound;
        in_use = u;
        member = reached 0x0f;
        unmarked = rw (unmarked i Get e);
        fields = rw (lt-ltb i _ (valid i Get e));
        short = rw (request-long (host.Get m i 1) []) (omega arith);
      })).asked

  -- a full capture through a live get object
  get-performs : (i : ℕ) → lookup_of (member_in c m) i ≡ Some Get → bit (in_use_of c) 0x0f ≡ true
      → perform c (get_all m i) (ask_in c (get_all m i)) ≡ effect (Ok tt) c (capture_of (member_in c m).queues (member_in c m).values)
  unfolding perform through_get result_of unless◌answer◌then◌
  get-performs i e u = rw (get-taken i e u, e)

  pub capture-is : (i room : ℕ) → lookup_of (member_in c m) i ≡ Some Get → bit (in_use_of c) 0x0f ≡ true
      → 8 + length (capture_of (member_in c m).queues (member_in c m).values) ≤ room
      → capture c m i room ≡ head_of (Ok tt) ++ capture_of (member_in c m).queues (member_in c m).values
  capture-is i room e u h = respond-done c (get_all m i) room _ x.sound (get-performs i e u) h

-- the head of a reply is eight bytes
pub after-head : (list : List ℕ) → drop 8 (head_of (Ok tt) ++ list) ≡ list
unfolding head_of bytes
after-head list = refl

pub head-only : (list : List ℕ) → take 8 (head_of (Ok tt) ++ list) ≡ head_of (Ok tt)
unfolding head_of bytes
head-only list = refl

pub long-reply : (list : List ℕ) → length (head_of (Ok tt) ++ list) ≡ 8 + length list
unfolding head_of bytes
long-reply list = omega arith

-- ---- a list is set ----

module _ (c : List ℕ) (m j : ℕ) (x : Settable c m j) where
  pub settable : Reached c m
  settable = record { sound = x.sound; here = x.here }

  module _ (list : List ℕ) (a : is_accepted (cause_of (member_in c m).queues (features_in (member_in c m)) list) ≡ true) where
    -- the member and the card after an accepted list
    unfoldable pub member_set : Member
    member_set = with_values (member_in c m) (applied (member_in c m).queues (parts_of Parts list) (member_in c m).values)

    unfoldable pub card_set : List ℕ
    card_set = with_member c m member_set

    pub card-is : card_set ≡ with_member c m member_set
    unfolding card_set
    card-is = refl

    set-done : parts_set_of c m j list ≡ (Ok tt, card_set)
    unfolding card_set member_set parts_set_of set_parts_of when◌then◌else◌ unless◌answer◌then◌
    set-done = rw (x.set_in_use, lt-ltb j _ (valid c m settable j Set x.set_object), x.set_object, x.stopped, a)

    pub set_is : (r : ℕ) → 8 ≤ r → length list ≤ longest_list → set_list c m j list r ≡ (card_set, head_of (Ok tt))
    set_is r h short =
        let k = small c m settable j (valid c m settable j Set x.set_object) in
        rw (respond-parts-set c m x.sound x.here (unmarked c m settable j Set x.set_object) r h j k list (omega arith)) (rw set-done)

    pub member-sound : SoundIn c member_set
    unfolding member_set
    member-sound =
        let s = member c m settable in
        sound-applied _ _ _ (member_in c m) s (parts_of Parts list)
        (accepted-allowed (member_in c m).queues (features_in (member_in c m)) _ (member_in c m).values a s.shaped.long s.allowed)

    pub member-after : member_in card_set m ≡ member_set
    unfolding card_set
    member-after = member-same c m member_set (sound-has c (facts c m settable) m x.here) member-sound.shaped

    pub lookup-after : (i : ℕ) → lookup_of (member_in card_set m) i ≡ lookup_of (member_in c m) i
    unfolding member_set lookup_of
    lookup-after i = rw member-after

    -- another one can be set after it, and leaves a card as if it alone had changed the member
    pub settable-after : Settable card_set m j
    unfolding card_set member_set
    settable-after = record {
      sound = is-sound _ (sound-with-member c m member_set (facts c m settable) (within_low _ _ m x.here) member-sound);
      here = rw setup-with-member x.here;
      set_object = lookup-after j ∙ x.set_object;
      stopped = rw member-after x.stopped;
      set_in_use = rw use-with-member x.set_in_use;
    }

    pub use-after : in_use_of card_set ≡ in_use_of c
    unfolding card_set
    use-after = use-with-member c m member_set

    pub card-over : (y : Member) → Shaped y → with_member card_set m y ≡ with_member c m y
    unfolding card_set
    card-over y h = member-over c m member_set y h
