-- A character that is no digit, or one too many, ends it; else one more is read.
use Rattle.salvage_file.proofs.Number.{number-odd, number-large, number-on, number-end}
use Rattle.std.proofs.Common.{arith}
use Rattle.salvage_file.proofs.input.number.Goals.{then-not-is_ascii_digit-via-then-not-is_ascii_digit, then-not-is_ascii_digit-via-else-not-is_ascii_digit+then-n-gt99}
use Rattle.salvage_file.proofs.input.number.Goals as goal

pub returns-then-not-is_ascii_digit : goal.returns-then-not-is_ascii_digit
returns-then-not-is_ascii_digit c = elim c.then-not-is_ascii_digit.branch [
  | then-not-is_ascii_digit-via-then-not-is_ascii_digit w ↦
      number-odd _ _ _ c.loop-c.invariant.1 c.loop-c-test.true w.if-not-is_ascii_digit.ensures.cases
  | then-not-is_ascii_digit-via-else-not-is_ascii_digit+then-n-gt99 w ↦
      number-large _ _ _ c.loop-c.invariant.1 c.loop-c-test.true w.if-n-gt99.true
]

pub loop-c-preserved : goal.loop-c-preserved
loop-c-preserved c =
    let (low, high) = c.if-not-is_ascii_digit.ensures.cases in
    (omega (arith, c.from.ensures), rw c.from.ensures (number-on _ _ _ c.loop-c.invariant.1 c.loop-c-test.true low high c.if-n-gt99.false))

pub returns : goal.returns
returns c = number-end _ _ _ c.loop-c.invariant.1 c.loop-c-test.false
