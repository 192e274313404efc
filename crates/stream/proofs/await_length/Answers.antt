use borrow.Author.Rules.{rules}
use Rattle.theory.proofs.Ladder.{ladder}
use Rattle.stream.specs.Steps.{awaiting}
use Rattle.stream.proofs.await_length.Goals as goal

pub bounds-counts-0 : goal.bounds-counts-0
unfolding awaiting
bounds-counts-0 c = search rules

pub returns-then-counts-lt-MOST : goal.returns-then-counts-lt-MOST
unfolding awaiting
returns-then-counts-lt-MOST c = search ladder

pub returns : goal.returns
unfolding awaiting
returns c = search ladder
