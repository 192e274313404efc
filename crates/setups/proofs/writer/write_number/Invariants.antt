-- The invariant: to put the bytes that are left is to put them all.
use mathlib.Core.Path.{◌≡◌}
use Rattle.theory.specs.Bytes.{put}
use Rattle.setups.specs.Bits.{big_endian}
use Rattle.setups.proofs.writer.write_number.Given as goal

abbrev pub invariant-loop-i : goal.invariant-loop-i
invariant-loop-i l = put 0 (big_endian l.n l.x) l.initial.out ≡ put 0 (big_endian l.i l.rest) l.out
