-- The loop keeps that the headers that are left answer for the whole list.
use Rattle.std.proofs.Common.{◌≡◌}
use Rattle.parts.specs.declared.ListForm.TheVariants.{Headers}
use Rattle.parts.specs.List.{parts_of}
use Rattle.parts.specs.Reader.{left}
use Rattle.rules.specs.Rules.{every, asks_known}
use Rattle.rules.proofs.every_known.Given as goal

abbrev pub invariant-loop-header : goal.invariant-loop-header
invariant-loop-header l = every (asks_known l.queues) (parts_of Headers l.list) ≡ every (asks_known l.queues) (left l.header-iterator)
