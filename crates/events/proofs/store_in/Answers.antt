use borrow.Author.Rules.{rules}
use Rattle.events.proofs.EventLaws.{store-refused, stored-in}
use Rattle.events.proofs.store_in.Goals as goal

pub returns-in_err-store_answer : goal.returns-in_err-store_answer
returns-in_err-store_answer c = search (rules, store-refused)

pub returns : goal.returns
returns c = search (rules, stored-in)
