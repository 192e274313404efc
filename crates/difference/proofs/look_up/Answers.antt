use borrow.Author.Rules.{rules}
use Rattle.difference.specs.Under.{lookup_under}
use Rattle.difference.proofs.look_up.Goals as goal

pub returns-in-Some : goal.returns-in-Some
unfolding lookup_under
returns-in-Some c = let said = c.in-Some.ensures in search rules

pub returns-in-None : goal.returns-in-None
unfolding lookup_under
returns-in-None c = search rules
