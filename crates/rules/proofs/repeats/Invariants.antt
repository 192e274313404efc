-- The outer loop keeps that the parts that are left answer for the whole list; the inner one that they do with the part in
-- hand, looked for among those after it.
use Rattle.std.proofs.Common.{◌≡◌, ◌-◌, length}
use Rattle.theory.specs.Logic.{◌or◌}
use Rattle.parts.specs.List.{parts_of, among}
use Rattle.parts.specs.Reader.{left}
use Rattle.rules.specs.Rules.{repeated}
use Rattle.rules.proofs.repeats.Given as goal

abbrev pub invariant-parts : goal.invariant-parts
invariant-parts l = repeated l.queues (parts_of l.fn.form l.list) ≡ repeated l.queues (left l.reader)

abbrev pub decreases-parts : goal.decreases-parts
decreases-parts l = length l.reader.list.now - l.reader.at

abbrev pub invariant-rest : goal.invariant-rest
invariant-rest l = repeated l.queues (parts_of l.fn.form l.list)
    ≡ among l.part.part_type l.part.selector (left l.other-iterator) or repeated l.queues (left l.reader)
