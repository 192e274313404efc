-- The lines of a sheet add up. Assumes nothing.
use mathlib.Core.Path.{◌≡◌, refl}
use Prim.Native.Nat.{ℕ, ◌+◌}
use native.Mathlib.Omega.{arith}
use lib.Dec.{eqb}
use Rattle.theory.specs.Logic.{indicator}
use Rattle.std.specs.Prelude.{Result, Ok, Err}
use Rattle.rules.specs.declared.Cause.{Cause}
use Rattle.rules.specs.declared.Cause.TheVariants.{Cut, Unknown, Length, Size, Features, Twice}
use Rattle.rules.specs.Rules.{cause_of}
use Rattle.tally.specs.Rows.{cause_line, rows}
use Rattle.stream.specs.Stream.{whole, torn, capture, long}
use Rattle.stream.specs.Totals.{total, totals}
use Rattle.figures.specs.Claims.{sum, AddsUp}

-- whether a capture is counted in the line i
in-line : Result (Unit {0}) Cause → ℕ → ℕ
in-line a i = indicator (eqb (cause_line a) i)

-- it is in one of the eight
one : (a : Result (Unit {0}) Cause)
    → in-line a 1 + (in-line a 2 + (in-line a 3 + (in-line a 4 + (in-line a 5 + (in-line a 6 + (in-line a 7 + in-line a 8)))))) ≡ 1
unfolding indicator in-line
one (Ok u) = refl
one (Err Cut) = refl
one (Err Unknown) = refl
one (Err Length) = refl
one (Err Size) = refl
one (Err Features) = refl
one (Err Twice) = refl

pub adds-up : AddsUp
unfolding totals total rows sum indicator in-line
adds-up q features whole = refl
adds-up q features torn = refl
adds-up q features (capture c cs) = omega (arith, adds-up q features cs, one (cause_of q features c))
adds-up q features (long cs) = omega (arith, adds-up q features cs)
