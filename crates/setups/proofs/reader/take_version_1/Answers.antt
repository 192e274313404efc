-- Each return is a step of `take_version1`.
use borrow.Author.Rules.{rules}
use Rattle.theory.proofs.Ladder.{ladder, said-true}
use Rattle.setups.specs.Reading.{take_version1}
use Rattle.setups.proofs.Reading.{version-1-long}
use Rattle.setups.proofs.reader.take_version_1.Goals as goal

pub returns-then-not-is_version_1 : goal.returns-then-not-is_version_1
unfolding take_version1
returns-then-not-is_version_1 c = search ladder

pub setup_at-requires : goal.setup_at-requires
setup_at-requires c = search (rules, version-1-long, said-true)

pub returns : goal.returns
unfolding take_version1
returns c = search (ladder, rules)
