use borrow.Author.Rules.{rules}
use Rattle.theory.proofs.Ladder.{ladder}
use Rattle.frame.specs.Fields.{mode_in}
use Rattle.frame.proofs.fields.mode_in.Goals as goal

pub bounds-d-0 : goal.bounds-d-0
unfolding mode_in
bounds-d-0 c = search rules

pub returns-then-d-gt1 : goal.returns-then-d-gt1
unfolding mode_in
returns-then-d-gt1 c = search ladder

pub bounds-d-0-2 : goal.bounds-d-0-2
unfolding mode_in
bounds-d-0-2 c = search rules

pub returns : goal.returns
unfolding mode_in
returns c = search ladder
