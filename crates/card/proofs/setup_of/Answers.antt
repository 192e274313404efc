-- Three bytes and a copy are the setup.
use borrow.Author.Rules.{rules}
use Rattle.card.proofs.ReadLaws.{setup-copied}
use Rattle.card.proofs.setup_of.Goals as goal

pub returns : goal.returns
returns c = search (rules, setup-copied)
