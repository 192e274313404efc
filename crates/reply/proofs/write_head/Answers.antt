use borrow.Author.Rules.{rules}
use Rattle.reply.proofs.Reply.{head-written}
use Rattle.reply.proofs.write_head.Goals as goal

pub returns : goal.returns
returns c = search (rules, head-written)
