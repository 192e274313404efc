use borrow.Author.Rules.{rules}
use Rattle.salvage.specs.Salvage.{salvage_under}
use Rattle.salvage.proofs.salvage.Goals as goal

pub returns-in-Some : goal.returns-in-Some
unfolding salvage_under
returns-in-Some c = let said = c.in-Some.ensures in search rules

pub returns-in-None : goal.returns-in-None
unfolding salvage_under
returns-in-None c = search rules
