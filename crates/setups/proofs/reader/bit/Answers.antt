use native.Mathlib.Omega.{arith}
use borrow.Author.Rules.{rules}
use Rattle.setups.specs.Bits.{bit}
use Rattle.setups.proofs.Fields.{bit_past}
use Rattle.setups.proofs.reader.bit.Goals as goal

pub returns-then-s-k : goal.returns-then-s-k
returns-then-s-k c = (search (rules, bit_past), omega arith)

pub returns : goal.returns
unfolding bit
returns c = (search rules, omega arith)
