use borrow.Author.Rules.{rules}
use Rattle.reply.proofs.Result.{number-written}
use Rattle.reply.proofs.write_number.Goals as goal

pub returns : goal.returns
returns c = search (rules, number-written)
