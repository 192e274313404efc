use borrow.Author.Rules.{rules}
use Rattle.theory.proofs.Ladder.{ladder}
use Rattle.host.proofs.Reply.{fits_told}
use Rattle.host.specs.Reply.{length_right}
use Rattle.host.proofs.length_right.Goals as goal

pub result-requires : goal.result-requires
unfolding length_right
result-requires c = search rules

pub result_fits-requires : goal.result_fits-requires
unfolding length_right
result_fits-requires c = search rules

pub returns-then-status-eq0 : goal.returns-then-status-eq0
unfolding length_right
returns-then-status-eq0 c = search (ladder, fits_told)

pub returns : goal.returns
unfolding length_right
returns c = search ladder
