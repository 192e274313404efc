use borrow.Author.Rules.{rules}
use Rattle.theory.proofs.Ladder.{ladder}
use Rattle.frame.specs.Ask.{ask_of}
use Rattle.frame.proofs.Steps.{framed_is}
use Rattle.frame.proofs.decode.Goals as goal

pub returns-then-request-lt-DATA_AT : goal.returns-then-request-lt-DATA_AT
unfolding ask_of
returns-then-request-lt-DATA_AT c = search ladder

pub returns-then-request-gt-LONGEST : goal.returns-then-request-gt-LONGEST
unfolding ask_of
returns-then-request-gt-LONGEST c = search ladder

pub read_u16-op-requires : goal.read_u16-op-requires
unfolding ask_of
read_u16-op-requires c = search rules

pub overflow_cast-op : goal.overflow_cast-op
unfolding ask_of
overflow_cast-op c = search rules

pub read_u16-group-requires : goal.read_u16-group-requires
unfolding ask_of
read_u16-group-requires c = search rules

pub read_u64-m-requires : goal.read_u64-m-requires
unfolding ask_of
read_u64-m-requires c = search rules

pub slice_bounds-framed-count : goal.slice_bounds-framed-count
unfolding ask_of
slice_bounds-framed-count c = search rules

pub slice_bounds-framed-start : goal.slice_bounds-framed-start
unfolding ask_of
slice_bounds-framed-start c = search rules

pub slice_bounds-framed-end : goal.slice_bounds-framed-end
unfolding ask_of
slice_bounds-framed-end c = search rules

pub framed-requires : goal.framed-requires
unfolding ask_of
framed-requires c = search rules

pub returns : goal.returns
unfolding ask_of
returns c = search (rules, framed_is)
