use borrow.Author.Rules.{rules}
use Rattle.kajurnat.proofs.Numbered.{as_number}
use Rattle.kajurnat.proofs.kajurnat_store.Goals as goal

pub returns : goal.returns
returns c = search (rules, as_number)
