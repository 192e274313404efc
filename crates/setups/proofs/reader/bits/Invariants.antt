-- The invariant: the number is that of the first i bits.
use mathlib.Core.Path.{◌≡◌}
use Rattle.setups.specs.Bits.{bits_at}
use Rattle.setups.proofs.reader.bits.Given as goal

abbrev pub invariant-loop-i : goal.invariant-loop-i
invariant-loop-i l = l.number ≡ bits_at l.at l.i l.s
