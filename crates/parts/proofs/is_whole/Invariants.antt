-- The loop keeps that the parts that are left answer for the whole list.
use Rattle.std.proofs.Common.{◌≡◌}
use Rattle.parts.specs.List.{parts_of, whole}
use Rattle.parts.specs.Reader.{left}
use Rattle.parts.proofs.is_whole.Given as goal

abbrev pub invariant-loop-part : goal.invariant-loop-part
invariant-loop-part l = whole (parts_of l.fn.form l.list) ≡ whole (left l.part-iterator)
