-- The loop keeps what `Counting` says.
use Rattle.parts.specs.Reader.{left}
use Rattle.tally.proofs.Walk.{Counting}
use Rattle.tally.proofs.count_parts.Given as goal

abbrev pub invariant-loop-part : goal.invariant-loop-part
invariant-loop-part l = Counting l.queues l.capture l.initial.counts l.counts (left l.part-iterator)
