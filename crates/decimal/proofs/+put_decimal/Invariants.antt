-- It recurses as the digits of a number do: the measure is the number.
use Rattle.decimal.proofs.+put_decimal.Given as goal

abbrev pub decreases-put_decimal : goal.decreases-put_decimal
decreases-put_decimal l = l.n
