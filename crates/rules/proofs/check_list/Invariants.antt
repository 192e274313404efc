-- The loop keeps that the parts that are left decide the cause, with the first cause and the rows seen so far.
use Rattle.std.proofs.Common.{◌≡◌}
use Rattle.parts.specs.declared.ListForm.TheVariants.{Parts}
use Rattle.parts.specs.List.{parts_of}
use Rattle.parts.specs.Reader.{left}
use Rattle.rules.specs.Rules.{repeated, cause_of}
use Rattle.rules.proofs.Causes.{cause_left}
use Rattle.rules.proofs.check_list.Given as goal

abbrev pub invariant-loop-part : goal.invariant-loop-part
invariant-loop-part l = cause_of l.queues l.features l.list
    ≡ cause_left l.queues l.features (repeated l.queues (parts_of Parts l.list)) l.first l.seen (left l.part-iterator)
