use native.Mathlib.Omega.{arith}
use mathlib.Core.Path.{◌≡◌}
use Rattle.objects.proofs.Counts.{odd-indicator, half-indicator}
use Rattle.objects.proofs.indicator_of.Goals as goal

pub returns-then-v-eq1 : goal.returns-then-v-eq1
returns-then-v-eq1 c = rw c.if-v-eq1.true (odd-indicator _ c.requires.0)

pub returns-else-v-eq1 : goal.returns-else-v-eq1
returns-else-v-eq1 c = let p = c.requires in
    let e : c.args.v ≡ 2 = omega (arith, p.1, p.2, c.if-v-eq1.false) in
    rw e (half-indicator _ p.0)
