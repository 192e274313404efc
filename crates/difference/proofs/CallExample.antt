-- What both calls ask is met by the pair of Example.antt, and by a part of the table. Assumes nothing.
use mathlib.Core.Path.{◌≡◌, refl}
use mathlib.Core.Bool.{Bool, true}
use native.Mathlib.Omega.{arith}
use Rattle.theory.specs.Logic.{when◌then◌else◌}
use Rattle.theory.proofs.Table.{every}
use Rattle.inventory.specs.declared.Row.{Row}
use Rattle.inventory.specs.Inventory.{rows, present}
use Rattle.inventory.proofs.Rules.{every-row}
use Rattle.parts.specs.declared.ListForm.TheVariants.{Parts}
use Rattle.parts.specs.List.{parts_of, among}
use Rattle.setups.specs.declared.MemberSetup.{MemberSetup}
use Rattle.difference.specs.Calls.{HasEach, Asks, Asked}
use Rattle.difference.proofs.Example.{model, features, full, later}

-- what a setup says of a member with one queue; and the part that is asked, row 6 of the table
abbrev member : MemberSetup
member = record { queues = 1; features = features }

abbrev has_part : Row → Bool
has_part r = when present 1 r then among r.part_type r.selector (parts_of Parts full) else true

has_parts : every (λ k r. has_part r) 0 rows ≡ true
unfolding model every
has_parts = refl

full-each : HasEach 1 full
unfolding when◌then◌else◌
full-each i h y = rw y at (every-row (λ k r. has_part r) has_parts i h)

asks-met : Asks member full later
unfolding model
asks-met = record { full_accepted = refl; later_accepted = refl; lacks_none = full-each }

asked-met : Asked 1 0x103 0xff
unfolding model
asked-met = record { row = 6; below = omega arith; there = refl; type-is = refl; selector-is = refl }
