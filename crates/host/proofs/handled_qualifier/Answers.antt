use Rattle.theory.proofs.Ladder.{ladder}
use Rattle.host.specs.Reply.{handled_qualifier}
use Rattle.host.proofs.handled_qualifier.Goals as goal

pub returns-then-n-le7 : goal.returns-then-n-le7
unfolding handled_qualifier
returns-then-n-le7 c = search ladder

pub returns-else-n-le7 : goal.returns-else-n-le7
unfolding handled_qualifier
returns-else-n-le7 c = search ladder
