-- The loop keeps that the parts that are left answer for the whole list.
use Rattle.std.proofs.Common.{◌≡◌}
use Rattle.parts.specs.List.{parts_of, among}
use Rattle.parts.specs.Reader.{left}
use Rattle.parts.proofs.contains.Given as goal

abbrev pub invariant-loop-part : goal.invariant-loop-part
invariant-loop-part l = among l.t l.selector (parts_of l.fn.form l.list) ≡ among l.t l.selector (left l.part-iterator)
