use Rattle.tally.proofs.Captures.{bytes_fit, contents-counted}
use Rattle.tally.proofs.with_contents.Goals as goal

pub overflow_add-sums : goal.overflow_add-sums
overflow_add-sums c = search bytes_fit

pub returns : goal.returns
returns c = search contents-counted
