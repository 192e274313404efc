use borrow.Author.Rules.{rules}
use Rattle.reply.proofs.Reply.{answer-only}
use Rattle.reply.proofs.write_answer.Goals as goal

pub returns : goal.returns
returns c = search (rules, answer-only)
