-- The loop keeps that the parts that are left, taken after those before, give what the whole list gives.
use Rattle.parts.specs.Reader.{left}
use Rattle.salvage.specs.Walk.{state}
use Rattle.salvage.proofs.Walking.{Walking}
use Rattle.salvage.proofs.read_parts.Given as goal

abbrev pub invariant-loop-part : goal.invariant-loop-part
invariant-loop-part l =
    Walking l.queues l.features l.damaged (state l.initial.values l.initial.kept l.initial.dropped) (state l.values l.kept l.dropped) l.stop (left l.part-iterator)
