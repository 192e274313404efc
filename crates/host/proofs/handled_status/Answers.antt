use borrow.Author.Rules.{rules}
use Rattle.theory.proofs.Ladder.{ladder}
use Rattle.host.specs.Reply.{handled_status}
use Rattle.host.proofs.handled_status.Goals as goal

pub known_status-requires : goal.known_status-requires
unfolding handled_status
known_status-requires c = search rules

pub returns-then-known_status : goal.returns-then-known_status
unfolding handled_status
returns-then-known_status c = search ladder

pub returns-else-known_status : goal.returns-else-known_status
unfolding handled_status
returns-else-known_status c = search ladder
