use native.Mathlib.Omega.{arith}
use Rattle.theory.proofs.Ladder.{ladder}
use borrow.Author.Rules.{rules}
use Rattle.objects.specs.Objects.{within_limits}
use Rattle.objects.proofs.is_within_limits.Goals as goal

pub count_of-requires : goal.count_of-requires
count_of-requires c = (search rules, omega arith, omega arith)

pub returns-then-gets-count_of : goal.returns-then-gets-count_of
unfolding within_limits
returns-then-gets-count_of c = search ladder

pub count_of-requires-2 : goal.count_of-requires-2
count_of-requires-2 c = (search rules, omega arith, omega arith)

pub returns : goal.returns
unfolding within_limits
returns c = search ladder
