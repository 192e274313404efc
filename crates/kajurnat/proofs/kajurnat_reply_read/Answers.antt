use borrow.Author.Rules.{rules}
use Rattle.kajurnat.proofs.Told.{told-none, told-some}
use Rattle.kajurnat.proofs.kajurnat_reply_read.Goals as goal

pub returns-in-None : goal.returns-in-None
returns-in-None c = search (rules, told-none)

pub returns-in-Some : goal.returns-in-Some
returns-in-Some c = search (rules, told-some)
