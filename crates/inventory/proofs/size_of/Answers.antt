use mathlib.Core.Path.{refl}
use Rattle.inventory.specs.Inventory.{row_at, rows}
use Rattle.inventory.proofs.size_of.Goals as goal

pub returns : goal.returns
unfolding row_at rows
returns c = refl
