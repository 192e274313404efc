use native.Mathlib.Omega.{arith}
use borrow.Author.Rules.{rules}
use Rattle.setups.specs.Bits.{joined}
use Rattle.setups.proofs.writer.head.Goals as goal

pub returns : goal.returns
unfolding joined
returns c = (omega arith, omega arith)
