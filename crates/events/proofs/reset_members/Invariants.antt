-- The invariant: what is left of the records, put where it goes, gives the whole.
use Rattle.events.proofs.WriteLaws.{Resetting}
use Rattle.events.proofs.reset_members.Given as goal

abbrev pub invariant-loop-m : goal.invariant-loop-m
invariant-loop-m l = Resetting l.features l.generation l.initial.card l.card l.n l.m
