use Rattle.tally.proofs.Lines.{part-absent, part-counted, type-low, line-in}
use Rattle.tally.proofs.Captures.{one-fits}
use Rattle.tally.proofs.count_part.Goals as goal

pub returns-in_default : goal.returns-in_default
returns-in_default c = search part-absent

pub overflow_sub-line : goal.overflow_sub-line
overflow_sub-line c = search type-low

pub bounds-counts-line : goal.bounds-counts-line
bounds-counts-line c = search line-in

pub overflow_add-counts : goal.overflow_add-counts
overflow_add-counts c = search one-fits

pub bounds-counts-line-2 : goal.bounds-counts-line-2
bounds-counts-line-2 c = search line-in

pub returns : goal.returns
returns c = search part-counted
