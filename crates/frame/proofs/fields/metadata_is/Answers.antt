use borrow.Author.Rules.{rules}
use Rattle.frame.proofs.Steps.{metadata-list}
use Rattle.frame.proofs.fields.metadata_is.Goals as goal

pub returns-in_default : goal.returns-in_default
returns-in_default c = search (rules, metadata-list)
