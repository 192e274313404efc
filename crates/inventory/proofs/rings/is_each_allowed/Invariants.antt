-- The invariant: those below k are allowed.
use mathlib.Core.Path.{◌≡◌}
use mathlib.Core.Bool.{true}
use Rattle.inventory.specs.Queue.{queues_allowed}
use Rattle.inventory.proofs.rings.is_each_allowed.Given as goal

abbrev pub invariant-loop-k : goal.invariant-loop-k
invariant-loop-k l = queues_allowed l.k l.values ≡ true
