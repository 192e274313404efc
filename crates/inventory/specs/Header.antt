-- The header of a part: SPEC 5.1. Assumes nothing.
use Rattle.std.specs.Prelude.{List, ◌∷◌, ◌++◌, ℕ, eqb}
use Rattle.theory.specs.Logic.{indicator}
use Rattle.wire.specs.Le.{bytes}
use Rattle.inventory.specs.declared.Row.{Row}
use Rattle.inventory.specs.Inventory.{device_features}

-- type 2 bytes, flags 1, reserved 1, selector 8, length 4
abbrev pub flags_at : ℕ
flags_at = 2

abbrev pub selector_at : ℕ
selector_at = 4

abbrev pub length_at : ℕ
length_at = 12

abbrev pub header_size : ℕ
header_size = 16

-- 1 for the device features, 0 for every other part
abbrev pub flags_of : Row → ℕ
flags_of r = indicator (eqb r.part_type device_features)

unfoldable pub header_of : Row → List ℕ
header_of r = bytes 2 r.part_type ++ (flags_of r ∷ 0 ∷ (bytes 8 r.selector ++ bytes 4 r.size))
