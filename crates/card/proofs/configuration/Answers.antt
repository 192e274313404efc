use borrow.Author.Rules.{rules}
use Rattle.card.proofs.ConfigurationLaws.{configuration-lent}
use Rattle.card.proofs.configuration.Goals as goal

pub returns : goal.returns
returns c = search (rules, configuration-lent)
