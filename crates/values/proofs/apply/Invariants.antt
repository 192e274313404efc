-- The loop keeps that the parts that are left, applied to the values so far, give what the whole list gives.
use Rattle.std.proofs.Common.{◌≡◌, length}
use Rattle.parts.specs.declared.ListForm.TheVariants.{Parts}
use Rattle.parts.specs.List.{parts_of}
use Rattle.parts.specs.Reader.{left}
use Rattle.values.specs.Apply.{applied}
use Rattle.values.proofs.apply.Given as goal

abbrev pub invariant-loop-part : goal.invariant-loop-part
invariant-loop-part l = (length l.values ≡ length l.initial.values)
    × (applied l.queues (parts_of Parts l.list) l.initial.values ≡ applied l.queues (left l.part-iterator) l.values)
