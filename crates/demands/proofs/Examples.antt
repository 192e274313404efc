-- The worked examples B1 to B12 and the metadata list hold: all at once, by computation. Assumes nothing.
use mathlib.Core.Path.{refl}
use Rattle.demands.specs.Examples.{ExamplesHold}
use Rattle.demands.proofs.Model.{model}

pub examples-hold : ExamplesHold
unfolding model
examples-hold = record { replies = refl; sizes = refl }
