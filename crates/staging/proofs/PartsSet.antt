-- What a parts set to a member that is not marked gets in every case, as one law: steps 4 and 7 to 12 of SPEC 6.1, where
-- frame and buffer are in order.
-- Assumes nothing.
use Rattle.protocol.specs.declared.Refusal.{Refusal}
use Rattle.std.specs.Prelude.{Result, Err, is_ok}
use mathlib.Core.Path.{◌≡◌}
use mathlib.Core.Bool.{true, false}
use mathlib.Core.List.{List, []}
use Prim.Native.Nat.{ℕ, ◌+◌, ◌^◌, ◌≤◌, ◌<◌}
use lib.Dec.{ltb}
use lib.ListN.{length}
use Rattle.theory.specs.Logic.{when◌then◌else◌, unless◌answer◌then◌}
use Rattle.theory.proofs.Tests.{by_cases}
use Rattle.frame.specs.Frame.{longest, given_at}
use Rattle.protocol.specs.Answers.{Answer, outcome_of}
use Rattle.protocol.specs.declared.Refusal.TheVariants.{BadOpcode, BadField}
use Rattle.protocol.specs.declared.ChangeOp.TheVariants.{SetParts}
use Rattle.protocol.specs.Opcodes.{bit}
use Rattle.member.specs.declared.Member.{Member}
use Rattle.changes.specs.Changes.{member_after, change_of}
use Rattle.card.specs.Layout.{setup_of, in_use_of, is_member, member_in, with_member, is_marked}
use Rattle.card.specs.Sound.{is_sound}
use Rattle.card.proofs.SoundLaws.{sound-of, member-small}
use Rattle.reply.specs.Reply.{head_size, head_of}
use Rattle.reply.proofs.Reply.{reply-empty, final-empty}
use Rattle.admin.specs.Command.{effect, ask_in, perform, respond}
use Rattle.host.specs.Request.{set_parts}
use Rattle.admin.proofs.Respond.{ended, respond-is}
use Rattle.host.proofs.Asked.{parts-given, set-target, set-parts-asked}

-- what a change of member m comes to: its answer, and the card after it
abbrev settled : List ℕ → ℕ → Result Member Refusal → Answer × List ℕ
settled c m x = (outcome_of x, when is_ok (outcome_of x) then with_member c m (member_after (member_in c m) x) else c)

unfoldable pub parts_set_of : List ℕ → ℕ → ℕ → List ℕ → Answer × List ℕ
parts_set_of c m id list =
    unless bit (in_use_of c) 0x10 answer (Err BadOpcode, c) then  -- 4: not in use
    unless ltb id ((setup_of c).gets + (setup_of c).sets) answer (Err BadField, c) then  -- 7: id not valid
    settled c m (change_of (setup_of c).gets (setup_of c).sets list (SetParts id) (member_in c m))  -- 8 to 10

module _ (c : List ℕ) (m : ℕ) (e : is_sound c ≡ true) (here : is_member c m ≡ true) (u : is_marked c m ≡ false) (room : ℕ) (h : head_size ≤ room) where
  -- a reply with no result fits
  ends : (a : Answer) (next : List ℕ) → ended c room (effect a next []) ≡ (when is_ok a then next else c, head_of a)
  ends a next = rw (final-empty a room h, reply-empty)

  pub respond-parts-set : (id : ℕ) → id < 256 ^ 4 → (list : List ℕ) → given_at + length list ≤ longest
      → respond c (set_parts m id list) room ≡ ((parts_set_of c m id list).1, head_of (parts_set_of c m id list).0)
  unfolding ask_in perform parts_set_of when◌then◌else◌ unless◌answer◌then◌
  respond-parts-set id small list short =
      rw (
        respond-is c (set_parts m id list) room h e,
        set-target m id list (member-small c m e here),
        u,
        set-parts-asked m id list _ _ (in_use_of c) (sound-of c e).numbers.few_members here small short,
      )
      (by_cases (bit (in_use_of c) 0x10)
      (λ u. rw u (by_cases (ltb id ((setup_of c).gets + (setup_of c).sets))
      (λ v. rw (v, parts-given m id list) (ends _ _))
      (λ v. rw v (ends (Err BadField) c))))
      (λ u. rw u (ends (Err BadOpcode) c)))
