-- What the reader of a list gives. Assumes nothing.
use Rattle.std.specs.Prelude.{List, ℕ, ◌≡◌, ◌+◌, length, Option, Some, None, Result, Ok, Err}
use Rattle.theory.specs.Bytes.{bytes_at}
use Rattle.inventory.specs.Header.{header_size}
use Rattle.parts.specs.declared.ListForm.{ListForm}
use Rattle.parts.specs.declared.Part as declared
use Rattle.parts.specs.declared.Cut.{Cut}
use Rattle.parts.specs.declared.PartReader.{PartReader}
use Rattle.parts.specs.Step.{Step}
use Rattle.parts.specs.Step as step
use Rattle.parts.specs.List.{Part, PartList, end, cut, part, step_at, parts_from}

-- a part with the bytes of its value
abbrev pub owned : declared.Part → Part
owned p = record { part_type = p.part_type; flags = p.flags; selector = p.selector; value = p.value.now }

-- the parts that are left
abbrev pub left : PartReader → PartList
left r = parts_from r.form r.list.now r.at

-- what an item is in the list
abbrev pub step_of : Option (Result declared.Part Cut) → Step
step_of None = step.End
step_of (Some (Ok p)) = step.Part p.part_type p.flags p.selector p.start (length p.value.now)
step_of (Some (Err e)) = step.Cut

-- what stands at a position before the end, and the bytes of its value
abbrev pub ValueIn : List ℕ → Result declared.Part Cut → Type 0
ValueIn l (Ok p) = p.value.now ≡ bytes_at p.start (length p.value.now) l
ValueIn l (Err e) = Unit {0}

pub record Stands (form : ListForm) (l : List ℕ) (at : ℕ) (r : Result declared.Part Cut) : Type 0 where
  pub step : step_of (Some r) ≡ step_at form l at
  pub value : ValueIn l r

-- an item is the first of some parts, and the others follow; nothing follows a part that is cut
abbrev pub First : PartList → Option (Result declared.Part Cut) → PartList → Type 0
First ps None qs = (ps ≡ end) × (qs ≡ end)
First ps (Some (Ok p)) qs = ps ≡ part (owned p) qs
First ps (Some (Err e)) qs = (ps ≡ cut) × (qs ≡ end)

-- the position is moved past a part
abbrev pub Moves : ℕ → Option (Result declared.Part Cut) → ℕ → Type 0
Moves at None to = Unit {0}
Moves at (Some (Ok p)) to = (p.start ≡ at + header_size) × (to ≡ p.start + length p.value.now)
Moves at (Some (Err e)) to = Unit {0}

-- what a reader gives, which is another reader then
pub record Gives (old : PartReader) (r : Option (Result declared.Part Cut)) (new : PartReader) : Type 0 where
  pub step : step_of r ≡ step_at old.form old.list.now old.at
  pub first : First (left old) r (left new)
  pub moves : Moves old.at r new.at
