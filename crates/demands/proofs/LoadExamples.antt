-- The worked examples of the calls that only read hold. Each is a test that the prover computes. Assumes nothing.
use mathlib.Core.Path.{refl}
use Rattle.theory.proofs.Tests.{same_true}
use Rattle.demands.specs.Loads.{LoadExamplesHold}
use Rattle.demands.proofs.LoadsExample.{loads}

pub load-examples-hold : LoadExamplesHold
unfolding loads
load-examples-hold = record {
  f1 = same_true _ _ refl;
  f1-other = same_true _ _ refl;
  f1-selector = same_true _ _ refl;
  f2-marked = same_true _ _ refl;
  f2-wiped = same_true _ _ refl;
  f3-unsound = same_true _ _ refl;
  f3-member = same_true _ _ refl;
  f3-part = same_true _ _ refl;
  f3-queue = same_true _ _ refl;
  f3-length = same_true _ _ refl;
  f4 = same_true _ _ refl;
  f5-fresh = same_true _ _ refl;
  f5-held = same_true _ _ refl;
  f5-marked = same_true _ _ refl;
  f5-none = same_true _ _ refl;
  f6-written = same_true _ _ refl;
  f6-wiped = same_true _ _ refl;
  f6-length = same_true _ _ refl;
  f7-equal = same_true _ _ refl;
  f7-others = same_true _ _ refl;
  f7-short = same_true _ _ refl;
}
