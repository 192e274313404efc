-- The loop keeps that the parts that are left answer for the whole list.
use Rattle.std.proofs.Common.{◌≡◌}
use Rattle.parts.specs.Reader.{left}
use Rattle.difference.specs.Difference.{span_from, span_of}
use Rattle.difference.proofs.span_of.Given as goal

abbrev pub invariant-loop-part : goal.invariant-loop-part
invariant-loop-part l = span_of l.t l.selector l.list ≡ span_from l.t l.selector l.part-iterator.at (left l.part-iterator)
