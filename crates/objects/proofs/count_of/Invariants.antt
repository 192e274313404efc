use Rattle.std.proofs.Common.{◌≡◌, ◌+◌, ◌≤◌, drop}
use Rattle.objects.specs.Objects.{count}
use Rattle.objects.proofs.count_of.Given as goal

abbrev pub invariant-loop-b : goal.invariant-loop-b
invariant-loop-b l = (l.n ≤ l.b-index) × (count l.v l.bytes ≡ l.n + count l.v (drop l.b-index l.bytes))
