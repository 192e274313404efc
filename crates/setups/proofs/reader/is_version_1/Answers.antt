-- Each return is a step of `is_version1`.
use borrow.Author.Rules.{rules}
use Rattle.theory.proofs.Ladder.{ladder}
use Rattle.setups.specs.Reading.{is_version1}
use Rattle.setups.proofs.reader.is_version_1.Goals as goal

pub returns-then-bits-ne1 : goal.returns-then-bits-ne1
unfolding is_version1
returns-then-bits-ne1 c = search ladder

pub returns-then-s : goal.returns-then-s
unfolding is_version1
returns-then-s c = search ladder

pub returns : goal.returns
unfolding is_version1
returns c = search ladder
