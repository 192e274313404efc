use borrow.Author.Rules.{rules}
use Rattle.figures.proofs.Taking.{setup-left, setup-more, whole_room, setup-whole}
use Rattle.figures.proofs.take_setup.Goals as goal

pub overflow_sub-left : goal.overflow_sub-left
overflow_sub-left c = search setup-left

pub returns-then-chunk-left : goal.returns-then-chunk-left
returns-then-chunk-left c = search (rules, setup-more)

pub copy-requires-2 : goal.copy-requires-2
copy-requires-2 c = search (rules, whole_room)

pub returns : goal.returns
returns c = search (rules, setup-whole)
