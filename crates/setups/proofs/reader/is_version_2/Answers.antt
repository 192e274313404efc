-- Each return is a step of `is_version2`.
use borrow.Author.Rules.{rules}
use Rattle.theory.proofs.Ladder.{ladder}
use Rattle.setups.specs.Reading.{is_version2}
use Rattle.setups.proofs.reader.is_version_2.Goals as goal

pub returns-then-s-count_bytes : goal.returns-then-s-count_bytes
unfolding is_version2
returns-then-s-count_bytes c = search ladder

pub returns-then-not-is_head_right : goal.returns-then-not-is_head_right
unfolding is_version2
returns-then-not-is_head_right c = search ladder

pub returns-then-bits-ne0 : goal.returns-then-bits-ne0
unfolding is_version2
returns-then-bits-ne0 c = search ladder

pub returns : goal.returns
unfolding is_version2
returns c = search ladder
