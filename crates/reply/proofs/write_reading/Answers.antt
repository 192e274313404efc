use borrow.Author.Rules.{rules}
use mathlib.Core.Path.{refl}
use mir.Syntax.{w64}
use mir.Val.{Fits}
use lib.ListN.{length}
use Rattle.theory.proofs.Lent.{lent-tail}
use Rattle.reply.proofs.Reply.{refusal-written, success-written, short-written, result-written, tail-fits, reply-word}
use Rattle.reply.proofs.write_reading.Goals as goal

pub returns-in-Err : goal.returns-in-Err
returns-in-Err c = refusal-written _ _ _ _ _ _ c.in-Err.is _ c.write_answer.ensures

pub returns-then-reply-size : goal.returns-then-reply-size
returns-then-reply-size c = let pre = c.requires in
    success-written _ _ _ _ _ _ c.in-Ok.is _
    (short-written _ _ _ refl pre.2 _ (c.result_bytes-size.ensures _ pre.1) _ c.if-reply-size.true c.write_answer-then-reply-size.ensures)

pub write_result-requires : goal.write_result-requires
write_result-requires c = let pre = c.requires in (
  pre.0,
  pre.1,
  tail-fits _ _ _ _ pre.2 c.if-reply-size.false c.write_head.ensures _ _ _ _ (c.result_bytes-size.ensures _ pre.1),
)

pub overflow_add-result : goal.overflow_add-result
overflow_add-result c = let word : Fits w64 (length c.args.reply.now) = search rules in
    reply-word _ _ c.requires.2 c.if-reply-size.false (word)

pub returns : goal.returns
returns c = let pre = c.requires in
    success-written _ _ _ _ _ _ c.in-Ok.is _
    (result-written _ _ _ refl pre.2 _ (c.result_bytes-size.ensures _ pre.1) _ _
    c.if-reply-size.false c.write_head.ensures (lent-tail _ _ _ _ _ refl c.write_result.ensures))
