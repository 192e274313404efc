use Rattle.theory.proofs.Ladder.{ladder}
use Rattle.frame.proofs.member_of.Goals as goal

pub returns-then-request-lt-DATA_AT : goal.returns-then-request-lt-DATA_AT
returns-then-request-lt-DATA_AT c = search ladder

pub returns : goal.returns
returns c = search ladder
