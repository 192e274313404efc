use Rattle.std.proofs.Common.{rules}
use Rattle.message.proofs.Responded.{response-short, response-written}
use borrow.Author.Rules.{rules}
use Rattle.message.proofs.write_response.Goals as goal

pub returns-then-reply-size : goal.returns-then-reply-size
returns-then-reply-size c = search (rules, response-short)

pub returns : goal.returns
returns c = search (rules, response-written)
