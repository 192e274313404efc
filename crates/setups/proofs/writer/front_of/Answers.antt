use borrow.Author.Rules.{rules}
use Rattle.setups.proofs.Writing.{first-count, front-version-1, front-version-2}
use Rattle.setups.proofs.writer.front_of.Goals as goal

pub less_one-requires : goal.less_one-requires
less_one-requires c = search (rules, first-count)

pub returns-then-are_within : goal.returns-then-are_within
returns-then-are_within c = (search (rules, front-version-1), search rules)

pub returns : goal.returns
returns c = (search (rules, front-version-2), search rules)
