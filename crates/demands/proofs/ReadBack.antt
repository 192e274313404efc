-- Whatever a sound card answers to a built request is read: the numbers of every answer are known, and the result has the form
-- that the host reads by. Assumes nothing.
use Rattle.std.specs.Prelude.{Ok, Err, is_ok}
use mathlib.Core.Path.{◌≡◌, refl, sym, ◌∙◌}
use mathlib.Core.Bool.{Bool, true, false}
use mathlib.Core.List.{List, [], ◌++◌}
use Prim.Native.Nat.{ℕ, ◌+◌, ◌≤◌}
use native.Mathlib.Omega.{arith}
use borrow.Author.Tests.{eq-eqb, le-leb, ltb-true}
use lib.Dec.{eqb, leb, ltb}
use lib.ListN.{length, drop}
use Rattle.theory.specs.Logic.{when◌then◌else◌, unless◌answer◌then◌, ◌and◌, ◌or◌}
use Rattle.theory.proofs.Tests.{by_cases, both}
use Rattle.wire.specs.Le.{bytes, number}
use Rattle.wire.proofs.Le.{le_bytes}
use Rattle.protocol.specs.Answers.{Answer}
use Rattle.protocol.specs.declared.Refusal.TheVariants.{BadLength, BadGroup, BadOpcode, NoMember, Marked, BadField, Exists, NotLive, NoRoom, WrongKind, Running, BadList, ShortReply}
use Rattle.protocol.specs.Answers.{status_of, qualifier_of}
use Rattle.protocol.specs.Opcodes.{supported}
use Rattle.card.proofs.SoundLaws.{sound-of}
use Rattle.reply.specs.Reply.{head_size, head_of, final_of, reply_of}
use Rattle.admin.specs.Command.{ask_in}
use Rattle.host.specs.declared.ResultForm.{ResultForm}
use Rattle.host.specs.Request.{sent_of, request_of}
use Rattle.host.specs.Reply.{form_of, result_fits, length_right, known_status, handled_status, handled_qualifier, read_reply}
use Rattle.host.proofs.Request.{command-supported}
use Rattle.demands.specs.Host.{effect_in, answer_in, told, ReadBack}
use Rattle.admin.proofs.Respond.{asked_of, respond-is}
use Rattle.demands.proofs.ResultForms.{request-asks, effect-fits}

-- ---- the reply ----

-- each answer's numbers are known and fit their two bytes
abbrev readable : Answer → Bool
readable a = ltb (status_of a) 65536 and ltb (qualifier_of a) 65536 and known_status (status_of a) and leb (qualifier_of a) 7

all-readable : (a : Answer) → readable a ≡ true
unfolding known_status ◌and◌ ◌or◌
all-readable (Ok x) = refl
all-readable (Err BadLength) = refl
all-readable (Err BadGroup) = refl
all-readable (Err BadOpcode) = refl
all-readable (Err NoMember) = refl
all-readable (Err Marked) = refl
all-readable (Err BadField) = refl
all-readable (Err Exists) = refl
all-readable (Err NotLive) = refl
all-readable (Err NoRoom) = refl
all-readable (Err WrongKind) = refl
all-readable (Err Running) = refl
all-readable (Err BadList) = refl
all-readable (Err ShortReply) = refl

-- success, and nothing else, has status 0
zero-done : (a : Answer) → eqb (status_of a) 0 ≡ is_ok a
zero-done (Ok x) = refl
zero-done (Err BadLength) = refl
zero-done (Err BadGroup) = refl
zero-done (Err BadOpcode) = refl
zero-done (Err NoMember) = refl
zero-done (Err Marked) = refl
zero-done (Err BadField) = refl
zero-done (Err Exists) = refl
zero-done (Err NotLive) = refl
zero-done (Err NoRoom) = refl
zero-done (Err WrongKind) = refl
zero-done (Err Running) = refl
zero-done (Err BadList) = refl
zero-done (Err ShortReply) = refl

-- a head, and what follows it
module _ (a : Answer) (x : List ℕ) where
  status-in : number 0 2 (head_of a ++ x) ≡ status_of a
  unfolding head_of bytes number
  status-in = le_bytes 2 (status_of a) (ltb-true _ _ (both _ _ (both _ _ (both _ _ (all-readable a)).0).0).0)

  qualifier-in : number 2 2 (head_of a ++ x) ≡ qualifier_of a
  unfolding head_of bytes number
  qualifier-in = le_bytes 2 (qualifier_of a) (ltb-true _ _ (both _ _ (both _ _ (both _ _ (all-readable a)).0).0).1)

  status-handled : handled_status (status_of a) ≡ status_of a
  unfolding handled_status when◌then◌else◌
  status-handled = rw (both _ _ (both _ _ (all-readable a)).0).1

  qualifier-handled : handled_qualifier (qualifier_of a) ≡ qualifier_of a
  unfolding handled_qualifier when◌then◌else◌
  qualifier-handled = rw (both _ _ (all-readable a)).1

  pub after-head : drop head_size (head_of a ++ x) ≡ x
  unfolding head_of bytes
  after-head = refl

  reply-long : length (head_of a ++ x) ≡ head_size + length x
  unfolding head_of bytes
  reply-long = omega arith

-- y has the form of a success, and a refusal has none
module _ (op what : ℕ) (a : Answer) (y : List ℕ) (s : supported op ≡ true)
    (f : is_ok a ≡ true → result_fits (form_of op what) y ≡ true) (g : is_ok a ≡ false → y ≡ []) where
  length-right : length_right (form_of op what) (status_of a) (head_of a ++ y) ≡ true
  unfolding length_right when◌then◌else◌
  length-right =
      rw (zero-done a) (by_cases (is_ok a) (λ d. rw (d, after-head a y) (f d)) (λ d. rw d (eq-eqb _ _ (reply-long a y ∙ rw (g d)))))

  reply-read : read_reply op what (head_of a ++ y) ≡ told a
  unfolding read_reply unless◌answer◌then◌
  reply-read =
      let n : head_size ≤ length (head_of a ++ y) = omega (arith, reply-long a y) in
      rw (s, le-leb head_size (length (head_of a ++ y)) n, status-in a y)
      (rw (length-right, qualifier-in a y, status-handled a y, qualifier-handled a y))

-- the result as it stands in the reply
module _ (form : ResultForm) (x : List ℕ) where
  success-stands : (t : Bool) → (t ≡ true → result_fits form x ≡ true) → t ≡ true → result_fits form (when t then x else []) ≡ true
  unfolding when◌then◌else◌
  success-stands true f d = f d
  success-stands false f d = cc

refusal-empty : (t : Bool) (x : List ℕ) → t ≡ false → (when t then x else []) ≡ []
unfolding when◌then◌else◌
refusal-empty true x d = cc
refusal-empty false x d = refl

-- step 11 makes no success
final-done : (a : Answer) (size room : ℕ) → is_ok (final_of a size room) ≡ true → is_ok a ≡ true
unfolding final_of when◌then◌else◌
final-done a size room = by_cases (is_ok a) (λ d e. d) (λ d. rw d (λ e. sym d ∙ e))

-- ---- the claim ----

pub read-back : ReadBack
unfolding reply_of
read-back c x list room what sound h w t =
    let r = request_of x list in
    let op = (sent_of x).opcode in
    let e = effect_in c r in
    let a = answer_in c r room in
    let fits : is_ok e.outcome ≡ true → result_fits (form_of op what) e.result ≡ true =
    effect-fits c r (sound-of c sound) (form_of op what) (ask_in c r) (asked_of c r) (request-asks c x list what w t) in
    record {
      outcome =
          rw (respond-is c r room h sound)
          (reply-read op what a (when is_ok a then e.result else []) (command-supported x)
          (success-stands (form_of op what) e.result (is_ok a) (λ d. fits (final-done e.outcome (length e.result) room d)))
          (refusal-empty (is_ok a) e.result));
      result = rw (respond-is c r room h sound) (after-head a (when is_ok a then e.result else []));
    }
