use borrow.Author.Rules.{rules}
use Rattle.stream.proofs.Takes.{length-room, length-sum, length_front, length_more, run-four, length-here, length-done}
use Rattle.stream.proofs.take_length.Goals as goal

pub open_capture-requires : goal.open_capture-requires
open_capture-requires c = (search rules, search run-four)

pub returns-then-p-eq0 : goal.returns-then-p-eq0
returns-then-p-eq0 c = search (rules, length-here)

pub copy-requires : goal.copy-requires
copy-requires c = search length-room

pub overflow_add-result : goal.overflow_add-result
overflow_add-result c = search length-sum

pub returns-then-n-p : goal.returns-then-n-p
returns-then-n-p c = search (rules, length_more)

pub open_capture-requires-2 : goal.open_capture-requires-2
open_capture-requires-2 c = (search rules, search length_front)

pub returns : goal.returns
returns c = search length-done
