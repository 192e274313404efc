-- The invariant: the fields of the counts before this one are in the number.
use Rattle.setups.proofs.Writing.{Joining}
use Rattle.setups.proofs.writer.with_counts.Given as goal

abbrev pub invariant-loop-count : goal.invariant-loop-count
invariant-loop-count l = Joining l.x l.queues l.number l.count-index
