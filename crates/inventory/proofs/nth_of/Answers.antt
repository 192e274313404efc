-- Its tests are those of the definition, in the same order.
use borrow.Author.Rules.{rules}
use Rattle.theory.proofs.Ladder.{ladder}
use Rattle.inventory.specs.Worked.{nth_of}
use Rattle.inventory.proofs.nth_of.Goals as goal

pub overflow_add-result : goal.overflow_add-result
unfolding nth_of
overflow_add-result c = search rules

pub returns-then-n-count : goal.returns-then-n-count
unfolding nth_of
returns-then-n-count c = search (ladder, rules)

pub returns : goal.returns
unfolding nth_of
returns c = search ladder
