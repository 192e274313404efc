use borrow.Author.Rules.{rules}
use Rattle.card.proofs.ConfigurationLaws.{configuration-written}
use Rattle.card.proofs.write_configuration.Goals as goal

pub returns : goal.returns
returns c = search (rules, configuration-written)
