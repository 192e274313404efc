-- The steps of a parts set that finish takes are the command's. Assumes nothing.
use Rattle.protocol.specs.declared.Refusal.{Refusal}
use Rattle.std.specs.Prelude.{Result, Ok, Err, is_ok}
use mathlib.Core.Path.{◌≡◌, refl, ap, sym, ◌∙◌}
use mathlib.Core.Bool.{Bool, true, false, not}
use mathlib.Core.List.{List}
use Prim.Native.Nat.{ℕ, ◌+◌, ◌-◌, ◌*◌, ◌^◌, ◌≤◌, ◌<◌}
use native.Mathlib.Nat.{sub-zero}
use native.Mathlib.Omega.{arith}
use lib.Dec.{ltb}
use lib.ListN.{length, take}
use borrow.Author.Tests.{ltb-true, lt-ltb, le-ltb, not-true, not-false}
use Rattle.theory.specs.Logic.{when◌then◌else◌, unless◌answer◌then◌}
use Rattle.theory.specs.Bytes.{bytes_at}
use Rattle.theory.proofs.Tests.{by_cases}
use Rattle.wire.specs.Le.{le, bytes, number}
use Rattle.protocol.specs.Answers.{Answer, outcome_of, status_of, qualifier_of}
use Rattle.protocol.specs.declared.Refusal.TheVariants.{BadLength, BadGroup, BadOpcode, NoMember, Marked, BadField, Exists, NotLive, NoRoom, WrongKind, Running, BadList, ShortReply}
use Rattle.protocol.specs.declared.ChangeOp.TheVariants.{SetParts}
use Rattle.protocol.specs.Opcodes.{bit}
use Rattle.member.specs.declared.Member.{Member}
use Rattle.member.specs.Record.{holding_size}
use Rattle.member.specs.Member.{with_held}
use Rattle.member.proofs.Sound.{sound-held}
use Rattle.changes.specs.Changes.{member_after, change_of}
use Rattle.changes.proofs.Kept.{change-refused, change-marked, change-sound}
use Rattle.card.specs.declared.Setup.{Setup}
use Rattle.card.specs.Layout.{setup_of, in_use_of, is_member, member_in, with_member, is_marked, holding_in, with_holding, no_bytes}
use Rattle.card.specs.Sound.{is_sound}
use Rattle.card.proofs.MemberLaws.{member-same, member-over}
use Rattle.card.proofs.MarkLaws.{marked-is}
use Rattle.card.proofs.SoundLaws.{Sound, SoundIn, sound-of, sound-has, sound-member-in}
use Rattle.host.specs.Request.{set_parts}
use Rattle.reply.specs.Reply.{head_size, head_of}
use Rattle.admin.specs.Command.{respond}
use Rattle.staging.proofs.PartsSet.{parts_set_of, respond-parts-set}
use Rattle.staging.specs.Staging.{with_held_bytes, without_held, concluded}
use Rattle.staging.specs.SetSteps.{set_into}
use Rattle.staging.proofs.Places.{holding-long}

-- status + 65,536 x qualifier, which are a reply's first four bytes
abbrev pub reply_number : Answer → ℕ
reply_number a = status_of a + 65536 * qualifier_of a

head-number : (a : Answer) → number 0 4 (head_of a) ≡ reply_number a
unfolding head_of bytes number le
head-number (Ok x) = refl
head-number (Err BadLength) = refl
head-number (Err BadGroup) = refl
head-number (Err BadOpcode) = refl
head-number (Err NoMember) = refl
head-number (Err Marked) = refl
head-number (Err BadField) = refl
head-number (Err Exists) = refl
head-number (Err NotLive) = refl
head-number (Err NoRoom) = refl
head-number (Err WrongKind) = refl
head-number (Err Running) = refl
head-number (Err BadList) = refl
head-number (Err ShortReply) = refl

module _ (c : List ℕ) (m : ℕ) (e : is_sound c ≡ true) (h : is_member c m ≡ true) (u : is_marked c m ≡ false) where
  s : Sound c
  s = sound-of c e

  unmarked : (member_in c m).marked ≡ false
  unmarked = sym (marked-is c m h) ∙ u

  -- what the command leaves, without the holding place
  abbrev left : Result Member Refusal → ℕ × List ℕ
  left y = (reply_number (outcome_of y), with_holding (with_member c m (with_held (member_after (member_in c m) y) 0)) m no_bytes)

  -- the member of a success is put first
  gone_with : (y : Member) → SoundIn c y → y.marked ≡ false → without_held (with_member c m y) m ≡ with_holding (with_member c m (with_held y 0)) m no_bytes
  unfolding without_held with_held_bytes
  gone_with y f n =
      let g = sound-held _ _ _ y f n 0 (omega arith) in
      rw (member-same c m y (sound-has c s m h) f.shaped)
      (ap (λ d. with_holding d m no_bytes) (member-over c m y (with_held y 0) g.shaped))

  gone-as : without_held c m ≡ with_holding (with_member c m (with_held (member_in c m) 0)) m no_bytes
  unfolding without_held with_held_bytes
  gone-as = refl

  settled-as : (t : Bool) (y : Member) → SoundIn c y → y.marked ≡ false → (t ≡ false → y ≡ member_in c m)
      → without_held (when t then with_member c m y else c) m ≡ with_holding (with_member c m (with_held y 0)) m no_bytes
  unfolding when◌then◌else◌
  settled-as t y f n g = by_cases t (λ u. rw u (gone_with y f n)) (λ u. rw (u, g u) gone-as)

  module _ (id : ℕ) (list : List ℕ) where
    concludes : ◌≡◌ {A = ℕ × List ℕ} (reply_number (parts_set_of c m id list).0, without_held (parts_set_of c m id list).1 m) (left (set_into c id list (member_in c m)))
    unfolding parts_set_of set_into unless◌answer◌then◌
    concludes =
        by_cases (bit (in_use_of c) 0x10)
        (λ u. rw u (by_cases (ltb id ((setup_of c).gets + (setup_of c).sets))
        (λ v. rw v
        (let y = change_of (setup_of c).gets (setup_of c).sets list (SetParts id) (member_in c m) in
        ap (λ (d : List ℕ). (reply_number (outcome_of y), d))
        (settled-as (is_ok (outcome_of y)) (member_after (member_in c m) y)
        (change-sound (setup_of c).gets (setup_of c).sets list (SetParts id) (member_in c m) _ (ltb-true _ _ v) unmarked (sound-member-in c s m h))
        (change-marked (setup_of c).gets (setup_of c).sets list (SetParts id) (member_in c m) ∙ unmarked)
        (change-refused (member_in c m) y))))
        (λ v. rw v (ap (λ (d : List ℕ). (reply_number (Err BadField), d)) gone-as))))
        (λ u. rw u (ap (λ (d : List ℕ). (reply_number (Err BadOpcode), d)) gone-as))

    pub set-concludes : id < 256 ^ 4 → length list ≤ holding_size
        → ◌≡◌ {A = ℕ × List ℕ} (concluded m (respond c (set_parts m id list) head_size)) (left (set_into c id list (member_in c m)))
    set-concludes small short =
        rw (respond-parts-set c m e h u head_size (omega arith) id small list (omega arith), head-number (parts_set_of c m id list).0) concludes

-- ---- the steps, as the code takes them ----

pub first_of : (l : List ℕ) (k : ℕ) → bytes_at 0 (k - 0) l ≡ take k l
first_of l k = rw sub-zero

-- the holding place is as long as what is asked of it
pub held-within : (c : List ℕ) (m k : ℕ) (l : List ℕ) → l ≡ holding_in c m → is_sound c ≡ true → is_member c m ≡ true → k ≤ holding_size → k ≤ length l
held-within c m k l e s h i = rw e (omega (arith, holding-long c m (sound-has c (sound-of c s) m h)))

module _ (c : List ℕ) (id : ℕ) (x : Member) (u : ℕ) (p : u ≡ in_use_of c) (b : Bool) (q : b ≡ bit u 0x10) where
  is-used : b ≡ bit (in_use_of c) 0x10
  is-used = q ∙ rw p

  pub no-opcode : not b ≡ true → (list : List ℕ) → Err BadOpcode ≡ set_into c id list x
  unfolding set_into unless◌answer◌then◌
  no-opcode n list = rw (sym is-used ∙ not-true b n)

  module _ (n : not b ≡ false) (w : Setup) (f : w ≡ setup_of c) where
    pub bad-id : w.gets + w.sets ≤ id → (list : List ℕ) → Err BadField ≡ set_into c id list x
    unfolding set_into unless◌answer◌then◌
    bad-id l list = rw (sym is-used ∙ not-false b n, ← f, le-ltb id (w.gets + w.sets) l)

    pub sets-held : id < w.gets + w.sets → (m k : ℕ) (all list : List ℕ) → all ≡ holding_in c m → list ≡ take k all → (z : Result Member Refusal)
        → z ≡ change_of w.gets w.sets list (SetParts id) x → z ≡ set_into c id (take k (holding_in c m)) x
    unfolding set_into unless◌answer◌then◌
    sets-held l m k all list a t z e =
        rw (sym is-used ∙ not-false b n, ← f, lt-ltb id (w.gets + w.sets) l) (e ∙ rw (t, a))
