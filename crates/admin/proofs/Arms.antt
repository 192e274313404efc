-- What each kind of command comes to, from what the layers below answered. Assumes nothing.
use Rattle.std.specs.Prelude.{Result, Ok, Err}
use mathlib.Core.Path.{◌≡◌, refl, ap, sym, ◌∙◌}
use mathlib.Core.Bool.{Bool, true, false, not}
use mathlib.Core.List.{List, []}
use Prim.Native.Nat.{ℕ, ◌+◌, ◌≤◌}
use lib.ListN.{length}
use borrow.Author.Tests.{not-false}
use Rattle.theory.proofs.Tests.{inside}
use Rattle.wire.specs.Le.{bytes}
use Rattle.protocol.specs.declared.Body.{Body}
use Rattle.protocol.specs.declared.Refusal.{Refusal}
use Rattle.protocol.specs.declared.ReadOp.{ReadOp}
use Rattle.protocol.specs.declared.ChangeOp.{ChangeOp}
use Rattle.protocol.specs.Answers.{outcome_of}
use Rattle.protocol.specs.Opcodes.{supported_mask}
use Rattle.member.specs.declared.Member.{Member}
use Rattle.member.specs.Record.{member_of}
use Rattle.changes.specs.Changes.{change_of}
use Rattle.reads.specs.Reads.{read_of}
use Rattle.card.specs.declared.Setup.{Setup}
use Rattle.card.specs.Layout.{setup_of, in_use_of, is_member, member_bytes_in, member_in, with_member}
use Rattle.card.specs.Sound.{is_sound}
use Rattle.frame.specs.declared.Ask.{Ask}
use Rattle.frame.specs.declared.Ask.TheVariants.{QueryList, Read, Change}
use Rattle.frame.specs.Frame.{asked_list, given_list}
use Rattle.frame.proofs.Asked.{asked}
use Rattle.reply.specs.Result.{result_given}
use Rattle.reply.specs.Reply.{head_size, reply_of, replied, written}
use Rattle.admin.specs.Command.{ask_in, perform, conclude, delivered, command_of}
use Rattle.admin.proofs.Concluded.{kept, answer-kept, refused, changed, heard}

-- what a command leaves: the bytes written, the card, the buffer
abbrev Left : Type 0
Left = ℕ × (List ℕ × List ℕ)

-- ---- members ----

-- bs are the member's bytes, where they stand in the card
pub read_told : (c r l l' : List ℕ) (m n q : ℕ) (bs list values : List ℕ) (op : ReadOp) (y : Result Body Refusal)
    → bs ≡ member_bytes_in c m → list ≡ asked_list r → y ≡ read_of list op (member_of bs) → q ≡ (member_of bs).queues → values ≡ (member_of bs).values
    → (n, l') ≡ written (replied (outcome_of y) (result_given q list values y) (length l)) l
    → (n, (c, l')) ≡ delivered (conclude c (length l) (perform c r (Ok (Read m op)))) l
unfolding perform member_in
read_told c r l l' m n q bs list values op y f g h u v k = kept c _ _ l l' n (k ∙ rw (h, u, v, g, f))

module _ (c r l l' : List ℕ) (m n : ℕ) (s : Setup) (x : Member) (list : List ℕ) (e : s ≡ setup_of c) (f : x ≡ member_in c m) where
  module _ (op : ChangeOp) (y : Result Member Refusal) (g : list ≡ given_list r) (h : y ≡ change_of s.gets s.sets list op x) (room : head_size ≤ length l) where
    pub change-refused : (a : Refusal) → y ≡ Err a → (n, l') ≡ written (reply_of (Err a) []) l
        → (n, (c, l')) ≡ delivered (conclude c (length l) (perform c r (Ok (Change m op)))) l
    unfolding perform
    change-refused a t k = rw (← f, ← e, ← g, ← h, t) (refused c (Err a) l l' n room k _ refl)

    pub change-told : (z : Member) → y ≡ Ok z → (n, l') ≡ written (reply_of (Ok tt) []) l → (d : List ℕ) → d ≡ with_member c m z
        → (n, (d, l')) ≡ delivered (conclude c (length l) (perform c r (Ok (Change m op)))) l
    unfolding perform
    change-told z t k d i = rw (← f, ← e, ← g, ← h, t) (changed c (Ok tt) l l' n room k _ d refl i)

-- ---- the arms of a command ----

module _ (c r l : List ℕ) (b : Bool) (x a : Result Ask Refusal) (room : head_size ≤ length l) (sound : b ≡ is_sound c) (n : not b ≡ false)
    (e : x ≡ ask_in c r) (f : x ≡ a) where
  pub answered : (y : Left) → y ≡ delivered (conclude c (length l) (perform c r a)) l → y ≡ command_of c r l
  answered y h = heard c r l room (sym sound ∙ not-false b n) y (h ∙ rw (sym f ∙ e))

pub refusal-told : (c r l l' : List ℕ) (b : Bool) (x : Result Ask Refusal) (k : ℕ) → head_size ≤ length l → b ≡ is_sound c → not b ≡ false
    → x ≡ ask_in c r → (a : Refusal) → x ≡ Err a → (k, l') ≡ written (reply_of (Err a) []) l → (k, (c, l')) ≡ command_of c r l
unfolding perform
refusal-told c r l l' b x k room sound n e a f h = answered c r l b x (Err a) room sound n e f _ (answer-kept c (Err a) l l' k room h)

pub query-told : (c r l l' : List ℕ) (k : ℕ) → (k, l') ≡ written (replied (Ok tt) (bytes 8 supported_mask) (length l)) l
    → (k, (c, l')) ≡ delivered (conclude c (length l) (perform c r (Ok QueryList))) l
unfolding perform
query-told c r l l' k h = kept c (Ok tt) _ l l' k h

-- a member that a request asks for is one of the card's
module _ (c r : List ℕ) (x : Ask) (m : ℕ) (e : ask_in c r ≡ Ok x) where
  pub read-member : (op : ReadOp) → x ≡ Read m op → is_member c m ≡ true
  unfolding ask_in
  read-member op f =
      let g = asked (setup_of c).members ((setup_of c).gets + (setup_of c).sets) _ r (in_use_of c) (Ok (Read m op)) (e ∙ ap Ok f) in
      inside 1 (setup_of c).members m g.0.low g.0.high

  pub change-member : (op : ChangeOp) → x ≡ Change m op → is_member c m ≡ true
  unfolding ask_in
  change-member op f =
      let g = asked (setup_of c).members ((setup_of c).gets + (setup_of c).sets) _ r (in_use_of c) (Ok (Change m op)) (e ∙ ap Ok f) in
      inside 1 (setup_of c).members m g.0.low g.0.high
