use borrow.Author.Rules.{rules}
use Rattle.stream.proofs.Takes.{capture-room, capture-sum, run_short, capture-more, capture-here, after-room, held-long, held-short, capture-done}
use Rattle.stream.proofs.take_capture.Goals as goal

pub close_capture-requires : goal.close_capture-requires
close_capture-requires c = (search rules, search run_short)

pub returns-then-p-eq0 : goal.returns-then-p-eq0
returns-then-p-eq0 c = search (rules, capture-here)

pub copy-requires : goal.copy-requires
copy-requires c = search capture-room

pub overflow_add-end : goal.overflow_add-end
overflow_add-end c = search capture-sum

pub returns-then-n-p : goal.returns-then-n-p
returns-then-n-p c = search (rules, capture-more)

pub slice_bounds-close_capture-end : goal.slice_bounds-close_capture-end
slice_bounds-close_capture-end c = search after-room

pub slice_bounds-close_capture-end-2 : goal.slice_bounds-close_capture-end-2
slice_bounds-close_capture-end-2 c = search held-long

pub close_capture-requires-2 : goal.close_capture-requires-2
close_capture-requires-2 c = (search rules, search held-short)

pub returns : goal.returns
returns c = search (rules, capture-done)
