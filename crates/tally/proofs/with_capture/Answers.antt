use borrow.Author.Rules.{rules}
use Rattle.tally.proofs.Captures.{one-fits, next_fits, capture-counted}
use Rattle.tally.proofs.with_capture.Goals as goal

pub overflow_add-sums : goal.overflow_add-sums
overflow_add-sums c = search (rules, one-fits)

pub overflow_add-sums-2 : goal.overflow_add-sums-2
overflow_add-sums-2 c = search (rules, next_fits)

pub returns : goal.returns
returns c = search (rules, capture-counted)
