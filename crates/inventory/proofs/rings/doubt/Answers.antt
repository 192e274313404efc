use borrow.Author.Rules.{rules}
use Rattle.inventory.proofs.Plain.{plain-first}
use Rattle.inventory.proofs.rings.doubt.Goals as goal

pub returns : goal.returns
returns c = search (rules, plain-first)
