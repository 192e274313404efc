use borrow.Author.Rules.{rules}
use Rattle.difference.specs.Under.{merge_under}
use Rattle.difference.proofs.Under.{member-few}
use Rattle.difference.proofs.merge.Goals as goal

pub merge_in-requires : goal.merge_in-requires
merge_in-requires c = let said = c.in-Some.ensures in search (rules, member-few)

pub returns-in-Some : goal.returns-in-Some
unfolding merge_under
returns-in-Some c = let said = c.in-Some.ensures in search rules

pub returns-in-None : goal.returns-in-None
unfolding merge_under
returns-in-None c = search rules
