-- The invariant: the parts left, put where the next goes, give the run.
use Rattle.capture.proofs.Runs.{Running}
use Rattle.capture.proofs.write_run.Given as goal

abbrev pub invariant-loop : goal.invariant-loop
invariant-loop l = Running l.values l.first l.count l.fn.row l.step l.at l.initial.out l.out l.end l.next l.counter
