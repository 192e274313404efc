-- The loop keeps what `Along` says.
use lib.ListN.{length}
use Rattle.stream.proofs.Feeding.{Along}
use Rattle.stream.proofs.feed.Given as goal

abbrev pub invariant-loop-rest : goal.invariant-loop-rest
invariant-loop-rest l = Along l.queues l.features l.initial.s l.initial.buffer l.chunk l.s l.buffer l.rest

abbrev pub decreases-loop-rest : goal.decreases-loop-rest
decreases-loop-rest l = length l.rest
