use borrow.Author.Rules.{rules}
use mathlib.Core.Path.{◌≡◌, refl, sym}
use Prim.Native.Nat.{ℕ}
use lib.ListN.{length}
use Rattle.wire.specs.Le.{bytes}
use Rattle.wire.proofs.Le.{length-bytes}
use Rattle.reply.proofs.Reply.{short-written, result-written, result-fits}
use Rattle.reply.proofs.write_mask.Goals as goal

eight : (x : ℕ) → 8 ≡ length (bytes 8 x)
eight x = sym (length-bytes 8 x)

pub returns-then-reply-lt-MASK_SIZE : goal.returns-then-reply-lt-MASK_SIZE
returns-then-reply-lt-MASK_SIZE c = short-written _ _ _ refl c.requires 8 (eight _) _ c.if-reply-lt-MASK_SIZE.true c.write_answer.ensures

pub write-requires : goal.write-requires
write-requires c = search (rules, result-fits)

pub returns : goal.returns
returns c = result-written _ _ _ refl c.requires 8 (eight _) _ _ c.if-reply-lt-MASK_SIZE.false c.write_head.ensures c.write.ensures
