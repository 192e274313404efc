use borrow.Author.Rules.{rules}
use Rattle.staging.proofs.SetLaws.{first_of}
use Rattle.staging.proofs.first.Goals as goal

pub returns : goal.returns
returns c = search (rules, first_of)
