-- The invariant: what is left of the records, put where it goes, gives the whole.
use Rattle.events.proofs.WriteLaws.{Writing}
use Rattle.events.proofs.write_members.Given as goal

abbrev pub invariant-loop-m : goal.invariant-loop-m
invariant-loop-m l = Writing l.features l.queues l.initial.card l.card l.m
