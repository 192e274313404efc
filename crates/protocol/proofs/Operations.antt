-- What is said of a kind and of a mode, and a bound on the object id of an operation.
-- Assumes nothing.
use mathlib.Core.Path.{◌≡◌}
use mathlib.Core.Bool.{true, false}
use Prim.Native.Nat.{ℕ, ◌<◌}
use Rattle.protocol.specs.declared.Mode.{Mode}
use Rattle.protocol.specs.declared.Mode.TheVariants.{Running, Stopped}
use Rattle.protocol.specs.declared.ObjectKind.{ObjectKind}
use Rattle.protocol.specs.declared.ObjectKind.TheVariants.{Get, Set}
use Rattle.protocol.specs.declared.ChangeOp.{ChangeOp}
use Rattle.protocol.specs.declared.ChangeOp.TheVariants.{Create, Modify, Destroy, SetParts, SetMode}
use Rattle.protocol.specs.Answers.{is_stopped, is_get, is_set}

-- a kind or a mode that is known, in the test of it
pub kind-get : (k : ObjectKind) → k ≡ Get → is_get k ≡ true
kind-get k e = rw e

pub kind-not-get : (k : ObjectKind) → k ≡ Set → is_get k ≡ false
kind-not-get k e = rw e

pub kind-set : (k : ObjectKind) → k ≡ Set → is_set k ≡ true
kind-set k e = rw e

pub kind-not-set : (k : ObjectKind) → k ≡ Get → is_set k ≡ false
kind-not-set k e = rw e

pub mode-stops : (m : Mode) → m ≡ Stopped → is_stopped m ≡ true
mode-stops m e = rw e

pub mode-runs : (m : Mode) → m ≡ Running → is_stopped m ≡ false
mode-runs m e = rw e

-- the id that it names, if any, is below ids
abbrev pub IdBelow : ℕ → ChangeOp → Type 0
IdBelow ids (Create id kind) = id < ids
IdBelow ids (Modify id kind) = id < ids
IdBelow ids (Destroy id) = id < ids
IdBelow ids (SetParts id) = id < ids
IdBelow ids (SetMode mode) = Unit {0}
