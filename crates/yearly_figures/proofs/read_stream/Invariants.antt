-- The state can be fed at every turn.
use Rattle.figures.specs.State.{Ready}
use Rattle.yearly_figures.proofs.read_stream.Given as goal

abbrev pub invariant-loop : goal.invariant-loop
invariant-loop l = Ready l.s l.buffer
