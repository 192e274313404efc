use borrow.Author.Rules.{rules}
use Rattle.member.proofs.Record.{front-saved}
use Rattle.member.proofs.fields.save_front.Goals as goal

pub returns : goal.returns
returns c = search (rules, front-saved)
