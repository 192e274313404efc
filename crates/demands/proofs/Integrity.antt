-- What a call leaves alone: the bytes outside a member's record, outside the list in use, and a member's mode and objects.
-- Assumes nothing.
use Rattle.std.specs.Prelude.{Result, Ok, Err}
use mathlib.Core.Path.{◌≡◌, refl, ◌∙◌}
use mathlib.Core.List.{List}
use Prim.Native.Nat.{ℕ, ◌+◌, ◌≤◌, ◌<◌}
use native.Mathlib.Omega.{arith}
use lib.ListN.{length, take}
use Rattle.theory.specs.Logic.{when◌then◌else◌}
use Rattle.theory.specs.Bytes.{put}
use Rattle.theory.proofs.Tests.{unless-cases}
use Rattle.theory.proofs.Bytes.{take-before, drop-after, length-bytes_at-le}
use Rattle.wire.specs.Le.{bytes}
use Rattle.protocol.specs.declared.Refusal.{Refusal}
use Rattle.protocol.specs.Answers.{EventAnswer}
use Rattle.protocol.specs.declared.ObjectKind.{ObjectKind}
use Rattle.protocol.specs.declared.ChangeOp.TheVariants.{SetParts}
use Rattle.std.specs.Prelude.{Option, Some, None}
use Rattle.objects.specs.Objects.{on_found}
use Rattle.member.specs.declared.Member.{Member}
use Rattle.member.specs.Objects.{lookup_of}
use Rattle.member.specs.Record.{member_size, holding_size, member_bytes}
use Rattle.member.specs.Member.{handed_back}
use Rattle.changes.specs.Changes.{member_after, set_parts_of, change_of}
use Rattle.changes.proofs.Kept.{change-sound}
use Rattle.card.specs.Layout.{in_use_at, member_bytes_at, holding_at, record_size, setup_of, record_at, with_in_use, with_record_bytes, member_in, with_member, with_holding, no_bytes, with_record}
use Rattle.card.proofs.MemberLaws.{member-same}
use Rattle.events.proofs.Cases.{on-member-cases}
use Rattle.card.proofs.SoundLaws.{Sound, sound-of, sound-has, sound-member-in}
use Rattle.events.specs.Events.{with_handed_back, hand_back, wipe}
use Rattle.frame.specs.declared.Ask.{Ask}
use Rattle.frame.specs.declared.Ask.TheVariants.{Change}
use Rattle.frame.specs.Frame.{opcode_of, target_of, data_of, given_list}
use Rattle.frame.specs.Fields.{set_in, use_in, fields_of}
use Rattle.frame.specs.Ask.{framed_of, ask_of}
use Rattle.admin.specs.Command.{ask_in, perform, respond}
use Rattle.demands.specs.Calls.{step}
use Rattle.demands.specs.Claims.{SameOutside, DifferAtMost, Integrity}
use Rattle.admin.proofs.Respond.{NamedIn, FactsIn, asked_of, card-cases}
use Rattle.admin.proofs.Marks.{named_here, named-unmarked}
use Rattle.demands.proofs.Named.{Leaves, unchanged, changed, named-leaves}

same : (at size : ℕ) (c : List ℕ) → SameOutside at size c c
same at size c = record { before = refl; after = refl }

-- what is put at a place, and no longer than that, is outside of nothing else
put-outside : (at size : ℕ) (x c : List ℕ) → length x ≤ size → SameOutside at size (put at x c) c
put-outside at size x c h =
    record { before = take-before at at x c (omega arith); after = drop-after (at + size) at x c (omega arith) }

bytes-outside : (m : ℕ) (c : List ℕ) (at n : ℕ) (x : List ℕ) → at + n ≤ record_size → DifferAtMost m (with_record_bytes c m at n x) c
unfolding with_record_bytes
bytes-outside m c at n x i =
    let w = length-bytes_at-le 0 n x in
    record {
      before = take-before (record_at m) (record_at m + at) (take n x) c (omega arith);
      after = drop-after (record_at m + record_size) (record_at m + at) (take n x) c (omega arith);
    }

leaves-outside : (m : ℕ) (c d : List ℕ) → Leaves m c d → DifferAtMost m d c
leaves-outside m c _ unchanged = same _ _ c
leaves-outside m c _ (changed {d} l h at n x i q) =
    let f = bytes-outside m d at n x i in
    let g = leaves-outside m c d l in
    record { before = f.before ∙ g.before; after = f.after ∙ g.after }

-- both halves of a reset
EventOutside : ℕ → List ℕ → EventAnswer × List ℕ → Type 0
EventOutside m c y = DifferAtMost m y.1 c

back-outside : (c : List ℕ) (m : ℕ) → EventOutside m c (hand_back c m)
unfolding hand_back with_handed_back with_member with_holding EventOutside
back-outside c m =
    on-member-cases c m _ (EventOutside m c) (λ a d. same _ _ c) λ s h.
    unless-cases (EventOutside m c) _ _ _ (λ t. same _ _ c) λ t.
    let f = bytes-outside m c member_bytes_at member_size (member_bytes (handed_back (member_in c m))) (omega arith) in
    let g = bytes-outside m _ holding_at holding_size no_bytes (omega arith) in
    record { before = g.before ∙ f.before; after = g.after ∙ f.after }

wipe-outside : (c : List ℕ) (m g : ℕ) → EventOutside m c (wipe c m g)
unfolding wipe with_record EventOutside
wipe-outside c m g =
    on-member-cases c m _ (EventOutside m c) (λ a d. same _ _ c) λ s h.
    unless-cases (EventOutside m c) _ _ _ (λ t. same _ _ c) (λ t. bytes-outside m c 0 record_size _ (omega arith))

-- ---- a command, by its opcode ----

-- what holds of a refusal and of what the fields at the opcode ask, holds of what the request asks
ask-at : (c r : List ℕ) (op : ℕ) → opcode_of r ≡ op → (P : Result Ask Refusal → Type 0) → ((a : Refusal) → P (Err a))
    → P (fields_of ((setup_of c).gets + (setup_of c).sets) (target_of r) op (data_of r)) → P (ask_in c r)
unfolding ask_in ask_of framed_of
ask-at c r op e P f g =
    rw e
    (unless-cases P _ _ _ (λ t. f _) λ t.
    unless-cases P _ _ _ (λ t. f _) λ t.
    unless-cases P _ _ _ (λ t. f _) λ t.
    unless-cases P _ _ _ (λ t. f _) λ t.
    unless-cases P _ _ _ (λ t. f _) λ t. g)

-- list use
use-outside : (c r : List ℕ) (room : ℕ) → opcode_of r ≡ 0x01 → SameOutside in_use_at 8 (respond c r room).0 c
unfolding perform with_in_use fields_of use_in when◌then◌else◌ bytes
use-outside c r room e =
    let P : Result Ask Refusal → Type 0 = λ a. SameOutside in_use_at 8 (perform c r a).card c in
    card-cases c r room (λ d. SameOutside in_use_at 8 d c) (same _ _ c)
    (λ s. ask-at c r 0x01 e P (λ a. same _ _ c)
    (unless-cases P _ _ _ (λ t. same _ _ c) (λ t. put-outside in_use_at 8 _ c (omega arith))))

-- parts set: the member with other values at most
Kept : Member → Member → Type 0
Kept m x = (x.mode ≡ m.mode) × (x.objects ≡ m.objects)

found-kept : (m : Member) (x : Option ObjectKind) (f : ObjectKind → Result Member Refusal) (a : Refusal) → ((k : ObjectKind) → Kept m (member_after m (f k)))
    → Kept m (member_after m (on_found x f (Err a)))
unfolding Kept
found-kept m None f a h = (refl, refl)
found-kept m (Some k) f a h = h k

set-kept : (gets sets id : ℕ) (list : List ℕ) (m : Member) → Kept m (member_after m (change_of gets sets list (SetParts id) m))
unfolding set_parts_of Kept
set-kept gets sets id list m = found-kept m (lookup_of m id) _ _ λ k.
    unless-cases (λ (y : Result Member Refusal). Kept m (member_after m y)) _ _ _ (λ t. (refl, refl)) λ t.
    unless-cases (λ (y : Result Member Refusal). Kept m (member_after m y)) _ _ _ (λ t. (refl, refl)) λ t.
    unless-cases (λ (y : Result Member Refusal). Kept m (member_after m y)) _ _ _ (λ t. (refl, refl)) λ t. (refl, refl)

-- in the card
module _ (c : List ℕ) (s : Sound c) (r : List ℕ) where
  abbrev m : ℕ
  m = target_of r

  abbrev StaysAs : List ℕ → Type 0
  StaysAs d = Kept (member_in c m) (member_in d m)

  put-kept : (id : ℕ) → NamedIn c r m → id < (setup_of c).gets + (setup_of c).sets
      → StaysAs (perform c r (Ok (Change m (SetParts id)))).card
  unfolding perform
  put-kept id n b =
      let h = named_here c r m n in
      let x = sound-member-in c s m h in
      let y = change-sound _ _ (given_list r) (SetParts id) (member_in c m) _ b (named-unmarked c r m n) x in
      rw (member-same c m _ (sound-has c s m h) y.shaped) (set-kept (setup_of c).gets (setup_of c).sets id (given_list r) (member_in c m))

  asked-kept : opcode_of r ≡ 0x10 → FactsIn c r (ask_in c r) → StaysAs (perform c r (ask_in c r)).card
  unfolding fields_of set_in perform when◌then◌else◌ Kept
  asked-kept e =
      let P : Result Ask Refusal → Type 0 = λ a. FactsIn c r a → StaysAs (perform c r a).card in
      ask-at c r 0x10 e P (λ a f. (refl, refl))
      (unless-cases P _ _ _ (λ t f. (refl, refl)) (λ t f. put-kept _ f.0 f.1))

set_keeps : (c r : List ℕ) (room : ℕ) → opcode_of r ≡ 0x10 → Kept (member_in c (target_of r)) (member_in (respond c r room).0 (target_of r))
unfolding Kept
set_keeps c r room e =
    card-cases c r room (λ d. Kept (member_in c (target_of r)) (member_in d (target_of r))) (refl, refl)
    (λ s. asked-kept c (sound-of c s) r e (asked_of c r))

-- ---- the claim ----

pub integrity : Integrity
unfolding step Kept EventOutside
integrity = record {
  named = λ c m x n. leaves-outside m c _ (named-leaves m c x n);
  handed_back = back-outside;
  wiped = wipe-outside;
  list_use = λ c r room. use-outside c r _;
  parts_set = λ c r room. set_keeps c r _;
}
