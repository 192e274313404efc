-- What a call that names m can leave: the card, or the card with other bytes in m's record, the same mark and the same queue
-- count. On any card, sound or not.
-- Integrity, isolation and commutation start from here. Assumes nothing.
use Rattle.std.specs.Prelude.{Result, Ok, Err}
use Rattle.protocol.specs.declared.Refusal.{Refusal}
use mathlib.Core.Path.{◌≡◌, refl, sym, ◌∙◌}
use mathlib.Core.Bool.{Bool, true, false}
use mathlib.Core.List.{List}
use Prim.Native.Nat.{ℕ, ◌+◌, ◌^◌, ◌≤◌, ◌<◌}
use native.Mathlib.Omega.{arith}
use lib.Dec.{eqb}
use lib.ListN.{length}
use borrow.Author.Tests.{eqb-true, eq-eqb}
use Rattle.theory.specs.Logic.{◌and◌, within}
use Rattle.theory.proofs.Tests.{inside, unless-cases, true-and, false-and, and-false, never}
use Rattle.protocol.specs.Opcodes.{names_member}
use Rattle.protocol.specs.Answers.{EventAnswer}
use Rattle.member.specs.declared.Member.{Member}
use Rattle.member.specs.Record.{member_size, holding_size, member_bytes}
use Rattle.member.specs.Member.{with_held}
use Rattle.changes.proofs.Kept.{change-marked, change-queues}
use Rattle.card.specs.Layout.{member_bytes_at, configuration_at, configuration_size, generation_size, holding_at, record_size, card_size, setup_of, is_member, HasRecord, with_record_bytes, member_in, with_member, is_marked, with_configuration, with_holding, no_bytes}
use Rattle.card.specs.Sound.{is_sound}
use Rattle.card.proofs.RecordBytesLaws.{length-with-bytes, setup-with-bytes}
use Rattle.card.proofs.MarkLaws.{mark-with-member, mark-behind}
use Rattle.card.proofs.CountLaws.{count-with-member, count-behind}
use Rattle.card.proofs.SoundLaws.{Sound, sound-of, sound-has, member-small}
use Rattle.events.specs.Events.{store_in, store}
use Rattle.events.proofs.Cases.{if-done-cases, on-member-cases}
use Rattle.frame.specs.declared.Ask.{Ask}
use Rattle.frame.specs.declared.Ask.TheVariants.{QueryList, UseList, Read, Change}
use Rattle.frame.specs.Frame.{opcode_of, group_of}
use Rattle.host.specs.declared.Command.TheVariants.{Set}
use Rattle.host.specs.Request.{sent_of, request, set_parts}
use Rattle.host.proofs.Request.{opcode-request, group-request, request-long}
use Rattle.host.proofs.Asked.{data_for, laid, request-is, set-target}
use Rattle.frame.proofs.Asked.{Named}
use Rattle.reply.specs.Reply.{head_size}
use Rattle.admin.specs.Command.{perform, respond}
use Rattle.demands.specs.Calls.{Call, command, hand_back, wipe, card_reset, card_store, restore_begin, restore_feed, restore_finish, restore_drop, message, step, names}
use Rattle.admin.proofs.Respond.{FactsIn, asked_of, card-cases}
use Rattle.admin.proofs.Marks.{named_here}
use Rattle.staging.specs.Staging.{held_bytes, with_held_bytes, without_held, begin_of, feed_of, finish_of, drop_of}
use Rattle.staging.proofs.Refusals.{on-member-cases as restore-cases, on-open-cases}
use Rattle.staging.proofs.Places.{has, held-short}
use Rattle.message.specs.Access.{whole_of}
use Rattle.message.proofs.Cases.{speaks-one, card-cases as message-cases}

-- what a call for m keeps of m
pub record SameKept (m : ℕ) (c d : List ℕ) : Type 0 where
  pub mark : is_marked d m ≡ is_marked c m
  pub count : (member_in d m).queues ≡ (member_in c m).queues

pub data Leaves (m : ℕ) (c : List ℕ) : List ℕ → Type 0 where
  unchanged : Leaves m c c
  changed : {d : List ℕ} → Leaves m c d → is_member c m ≡ true → (at n : ℕ) (x : List ℕ) → at + n ≤ record_size
      → SameKept m d (with_record_bytes d m at n x) → Leaves m c (with_record_bytes d m at n x)

module _ (m : ℕ) (c d : List ℕ) (l : Leaves m c d) (h : is_member c m ≡ true) (r : HasRecord d m) where
  -- another member, or another holding place
  leaves-member : (x : Member) → x.marked ≡ (member_in d m).marked → x.queues ≡ (member_in d m).queues → Leaves m c (with_member d m x)
  unfolding with_member
  leaves-member x q p =
      changed l h member_bytes_at member_size (member_bytes x) (omega arith)
      (record { mark = mark-with-member d m x r q m; count = count-with-member d m x r p m r.low })

  -- bytes behind a member's
  kept-behind : (e : List ℕ) (at n : ℕ) (x : List ℕ) → at + n ≤ record_size → configuration_at ≤ at → SameKept m e (with_record_bytes e m at n x)
  kept-behind e at n x i b =
      record { mark = mark-behind e m at n x i r.low b m; count = count-behind e m at n x i r.low m r.low b }

  leaves-held : (n : ℕ) (x : List ℕ) → Leaves m c (with_held_bytes d m n x)
  unfolding with_held_bytes with_holding
  leaves-held n x =
      changed (leaves-member (with_held (member_in d m) n) refl refl) h holding_at holding_size x (omega arith)
      (kept-behind _ holding_at holding_size x (omega arith) (omega arith))

  leaves-gone : Leaves m c (without_held d m)
  unfolding without_held
  leaves-gone = leaves-held 0 no_bytes

  leaves-configuration : (x : List ℕ) (g : ℕ) → Leaves m c (with_configuration d m x g)
  unfolding with_configuration
  leaves-configuration x g =
      changed l h configuration_at (configuration_size + generation_size) _ (omega arith)
      (kept-behind d configuration_at (configuration_size + generation_size) _ (omega arith) (omega arith))

pub leaves-long : (m : ℕ) (c d : List ℕ) → Leaves m c d → length d ≡ length c
leaves-long m c _ unchanged = refl
leaves-long m c _ (changed {d} l h at n x i q) = length-with-bytes d m at n x ∙ leaves-long m c d l

-- a card of the right length keeps it
pub leaves-whole : (m : ℕ) (c d : List ℕ) → Leaves m c d → length c ≡ card_size (setup_of c).members → length d ≡ card_size (setup_of d).members
leaves-whole m c _ unchanged e = e
leaves-whole m c _ (changed {d} l h at n x i q) e = rw (length-with-bytes, setup-with-bytes) (leaves-whole m c d l e)

record-after : (m : ℕ) (c d : List ℕ) → Leaves m c d → HasRecord c m → HasRecord d m
record-after m c d l r = record { low = r.low; high = rw (leaves-long m c d l) r.high }

-- where there is no member m nothing changes
pub leaves_none : (m : ℕ) (c d : List ℕ) → is_member c m ≡ false → Leaves m c d → d ≡ c
leaves_none m c _ n unchanged = refl
leaves_none m c _ n (changed l h at k x i q) = cc

-- ---- whom a request names ----

module _ (m : ℕ) (r : List ℕ) (room : ℕ) where
  -- a request for k names m where k is m
  pub names-is : (members : ℕ) (marked : Bool) (k : ℕ) → Named members marked r k → names m (command r room) ≡ eqb k m
  unfolding names
  names-is members marked k n =
      rw (inside 24 4096 (length r) n.long n.short, n.group, n.opcode, n.target)
      (rw (true-and, true-and) (true-and (eqb k m)))

  names-none : names_member (opcode_of r) ≡ false → names m (command r room) ≡ false
  unfolding names
  names-none e = simp (e, and-false, false-and)

-- ---- a command ----

module _ (m : ℕ) (c r : List ℕ) (room : ℕ) (e : names m (command r room) ≡ true) where
  perform-leaves : Sound c → (a : Result Ask Refusal) → FactsIn c r a → Leaves m c (perform c r a).card
  unfolding perform
  perform-leaves s (Err a) f = unchanged
  perform-leaves s (Ok QueryList) f = unchanged
  perform-leaves s (Ok (UseList mask)) f = never (sym (names-none m r room f.0) ∙ e)
  perform-leaves s (Ok (Read k op)) f = unchanged
  perform-leaves s (Ok (Change k op)) f =
      let q = eqb-true k m (sym (names-is m r room _ _ k f.0) ∙ e) in
      let h = named_here c r k f.0 in
      rw (← q) (leaves-member k c c unchanged h (sound-has c s k h) _
      (change-marked (setup_of c).gets (setup_of c).sets _ op (member_in c k))
      (change-queues (setup_of c).gets (setup_of c).sets _ op (member_in c k)))

  pub respond-leaves : Leaves m c (respond c r room).0
  respond-leaves = card-cases c r room (Leaves m c) unchanged (λ s. perform-leaves (sound-of c s) _ (asked_of c r))

-- ---- the command that a finish is ----

module _ (m k id : ℕ) (list : List ℕ) (small : k < 256 ^ 8) (short : length list ≤ holding_size) (room : ℕ) where
  abbrev set-data : List ℕ
  set-data = data_for (Set k id) list

  set_is : set_parts k id list ≡ request 0x10 1 k set-data
  unfolding sent_of
  set_is = request-is (Set k id) list

  set_long : length (set_parts k id list) ≡ 32 + length list
  unfolding laid
  set_long = request-long (Set k id) list

  set-group : group_of (set_parts k id list) ≡ 1
  set-group = rw set_is (group-request 0x10 1 k set-data (omega arith))

  set-opcode : names_member (opcode_of (set_parts k id list)) ≡ true
  unfolding names_member within ◌and◌
  set-opcode = rw (set_is, opcode-request 0x10 1 k set-data (omega arith))

  -- it names the member that it is for
  pub names-set : names m (command (set_parts k id list) room) ≡ eqb k m
  unfolding names
  names-set =
      rw (set_long, inside 24 4096 (32 + length list) (omega arith) (omega arith), set-group, set-opcode, set-target k id list small)
      (rw (true-and, true-and) (true-and (eqb k m)))

finish-names : (c : List ℕ) (m id room : ℕ) → is_sound c ≡ true → is_member c m ≡ true → names m (command (set_parts m id (held_bytes c m)) room) ≡ true
finish-names c m id room s h =
    names-set m m id (held_bytes c m) (member-small c m s h) (held-short c m (has c m s h)) room ∙ eq-eqb m m refl

-- ---- every call ----

-- the card after an event
abbrev EventLeaves : ℕ → List ℕ → EventAnswer × List ℕ → Type 0
EventLeaves m c y = Leaves m c y.1

abbrev RestoreLeaves : ℕ → List ℕ → ℕ × List ℕ → Type 0
RestoreLeaves m c y = Leaves m c y.1

pub named-leaves : (m : ℕ) (c : List ℕ) (x : Call) → names m x ≡ true → Leaves m c (step c x).0
unfolding step names store store_in begin_of feed_of finish_of drop_of
named-leaves m c (command r room) e = respond-leaves m c r _ e
named-leaves m c (hand_back k) e = never e
named-leaves m c (wipe k g) e = never e
named-leaves m c (card_reset g) e = never e
named-leaves m c (card_store k t s value) e =
    rw (eqb-true k m e)
    (on-member-cases c m _ (EventLeaves m c) (λ a d. unchanged) λ i h.
    if-done-cases (EventLeaves m c) _ _ c (λ d. unchanged) (λ d. leaves-member m c c unchanged h (has c m i h) _ refl refl))
named-leaves m c (restore_begin k) e =
    rw (eqb-true k m e)
    (restore-cases c m _ (RestoreLeaves m c) (λ a. unchanged) λ p.
    unless-cases (RestoreLeaves m c) _ _ _ (λ t. unchanged)
    (λ t. leaves-member m c c unchanged p.member (has c m p.sound p.member) _ refl refl))
named-leaves m c (restore_feed k x) e =
    rw (eqb-true k m e)
    (on-open-cases c m _ (RestoreLeaves m c) (λ a. unchanged) λ p.
    let r = has c m p.sound p.member in
    unless-cases (RestoreLeaves m c) _ _ _ (λ t. leaves-gone m c c unchanged p.member r) (λ t. leaves-held m c c unchanged p.member r _ _))
named-leaves m c (restore_finish k id) e =
    rw (eqb-true k m e)
    (on-open-cases c m _ (RestoreLeaves m c) (λ a. unchanged) λ p.
    let l = respond-leaves m c (set_parts m id (held_bytes c m)) head_size (finish-names c m id head_size p.sound p.member) in
    leaves-gone m c _ l p.member (record-after m c _ l (has c m p.sound p.member)))
named-leaves m c (restore_drop k) e =
    rw (eqb-true k m e)
    (on-open-cases c m _ (RestoreLeaves m c) (λ a. unchanged) (λ p. leaves-gone m c c unchanged p.member (has c m p.sound p.member)))
named-leaves m c (message x room) e =
    message-cases c x (Leaves m c) unchanged room λ k y g s h t.
    let q = speaks-one (whole_of x) k m t e in
    let i : is_member c m ≡ true = rw q at h in
    rw q (leaves-configuration m c c unchanged i (has c m s i) y g)
