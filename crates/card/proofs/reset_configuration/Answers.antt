use borrow.Author.Rules.{rules}
use Rattle.card.proofs.ConfigurationLaws.{configuration-zeroed}
use Rattle.card.proofs.reset_configuration.Goals as goal

pub returns : goal.returns
returns c = search (rules, configuration-zeroed)
