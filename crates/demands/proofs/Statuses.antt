-- The status table holds: steps 2 to 5, on those of StatusSteps.antt. Assumes nothing.
use mathlib.Core.Path.{◌≡◌, refl, ap, ◌∙◌}
use mathlib.Core.Bool.{Bool, true, false, not}
use mathlib.Core.List.{List, ◌++◌}
use Prim.Native.Nat.{ℕ, ◌+◌}
use lib.Dec.{eqb}
use lib.ListN.{length, take, replicate, length-append}
use Rattle.theory.specs.Logic.{when◌then◌else◌, unless◌answer◌then◌, ◌and◌, ◌or◌, within}
use Rattle.theory.proofs.Tests.{by_cases, both, or_comm, not-and}
use Rattle.wire.specs.Le.{bytes}
use Rattle.protocol.specs.Answers.{Answer}
use Rattle.protocol.specs.Opcodes.{supported, bit, names_member}
use Rattle.card.specs.Layout.{in_use_of, is_member, is_marked}
use Rattle.card.proofs.SoundLaws.{Sound, sound-of}
use Rattle.frame.specs.Frame.{opcode_of, group_of, target_of}
use Rattle.frame.specs.Ask.{usable, reaches, attended, framed_of, ask_of}
use Rattle.reply.specs.Reply.{head_of, final_of, reply_of}
use Rattle.reply.proofs.Reply.{head-long}
use Rattle.admin.specs.Command.{ask_in, perform}
use Rattle.demands.specs.Statuses.{first_of, result_size, rows_at, rows, Statuses}
use Rattle.admin.proofs.Respond.{last_answer, respond-is}
use Rattle.demands.proofs.StatusSteps.{Told, answered, ends, says, test, by-opcode}

-- ---- steps 2 to 5 ----

-- step 5, as the decoder and as the row test it
reaches-is : (n w : Bool) → not n or w ≡ not (n and not w)
unfolding ◌and◌ ◌or◌
reaches-is true true = refl
reaches-is true false = refl
reaches-is false w = refl

-- and the mark
attended-is : (n w : Bool) → not w or not n ≡ not (n and w)
attended-is n w = or_comm (not w) (not n) ∙ not-and n w

agree : (c r : List ℕ) (room : ℕ) → Sound c → ends room (perform c r (ask_in c r)) ≡ says (rows c r room) (result_size c r (opcode_of r))
unfolding ask_in ask_of framed_of usable reaches attended perform final_of first_of rows_at when◌then◌else◌ unless◌answer◌then◌
agree c r room s =
    test (within 24 4096 (length r)) (λ e. rw e) λ e. rw e (
    test (eqb (group_of r) 1) (λ e. rw e) λ e. rw e (
    test (supported (opcode_of r) and bit (in_use_of c) (opcode_of r)) (λ e. rw e) λ u. rw (u, reaches-is (names_member (opcode_of r)) (is_member c (target_of r))) (
    by_cases (names_member (opcode_of r) and not (is_member c (target_of r))) (λ e. rw e) λ n. rw (n, attended-is) (
    by_cases (names_member (opcode_of r) and is_marked c (target_of r)) (λ e. rw e) λ w. rw w (
    by-opcode c r room s (opcode_of r) (both _ _ u).0 n)))))

-- ---- the claim ----

head_first : (a : Answer) (x : List ℕ) → take 8 (reply_of a x) ≡ head_of a
unfolding reply_of head_of bytes
head_first a x = refl

reply-long : (a : Answer) (x : List ℕ) → length (reply_of a x) ≡ 8 + (answered a x).1.1
unfolding reply_of
reply-long a x = rw (length-append, head-long)

pub statuses : Statuses
unfolding head_of
statuses c r room s h =
    let e = perform c r (ask_in c r) in
    let z = agree c r room (sound-of c s) in
    let is = respond-is c r room h s in
    record {
      head = rw is (head_first (last_answer room e) e.result
          ∙ ap (λ (y : Told). bytes 2 y.0 ++ (bytes 2 y.1.0 ++ replicate 4 0)) z);
      size = rw is (reply-long (last_answer room e) e.result ∙ ap (λ (y : Told). 8 + y.1.1) z);
    }
