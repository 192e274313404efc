-- The features are copied whole.
use borrow.Author.Rules.{rules}
use Rattle.events.proofs.EventLaws.{setup-made}
use Rattle.events.proofs.setup_with.Goals as goal

pub returns : goal.returns
returns c = search (rules, setup-made)
