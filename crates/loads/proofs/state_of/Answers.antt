use borrow.Author.Rules.{rules}
use Rattle.loads.proofs.SummaryLaws.{state-marked, state-running, state-stopped}
use Rattle.loads.proofs.state_of.Goals as goal

pub returns-then-marked : goal.returns-then-marked
returns-then-marked c = search (rules, state-marked)

pub returns-in-Running : goal.returns-in-Running
returns-in-Running c = search (rules, state-running)

pub returns-in-Stopped : goal.returns-in-Stopped
returns-in-Stopped c = search (rules, state-stopped)
