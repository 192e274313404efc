-- Each return is a step of `take_version2`.
use borrow.Author.Rules.{rules}
use Rattle.theory.proofs.Ladder.{ladder, said-true}
use Rattle.setups.specs.Reading.{take_version2}
use Rattle.setups.proofs.Reading.{version-2-is, version-2-long}
use Rattle.setups.proofs.reader.take_version_2.Goals as goal

pub returns-then-not-is_version_2 : goal.returns-then-not-is_version_2
unfolding take_version2
returns-then-not-is_version_2 c = search (ladder, version-2-is)

pub setup_at-requires : goal.setup_at-requires
setup_at-requires c = search (rules, version-2-long, said-true, version-2-is)

pub returns : goal.returns
unfolding take_version2
returns c = search (ladder, version-2-is, rules)
