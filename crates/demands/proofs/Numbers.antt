-- The worked examples of Numbers.antt hold. Assumes nothing.
use mathlib.Core.Path.{refl}
use Rattle.demands.specs.Numbers.{number_examples, NumbersHold}
use Rattle.demands.proofs.Model.{model}

pub numbers-hold : NumbersHold
unfolding model number_examples
numbers-hold = refl
