use borrow.Author.Rules.{rules}
use Rattle.card.proofs.ConfigurationLaws.{generation-read}
use Rattle.card.proofs.generation.Goals as goal

pub returns : goal.returns
returns c = search (rules, generation-read)
