-- What the private functions add, step by step, for one number each of the sixteen. No public contract cites this.
-- Assumes nothing.
use Rattle.std.specs.Prelude.{List, [], ◌∷◌, ◌++◌, ℕ, ◌-◌, eqb, length, replicate}
use Rattle.theory.specs.Logic.{◌and◌, indicator}
use Rattle.inventory.specs.Inventory.{device_features, driver_features, pci_common, device_status, queue, queue_notify}
use Rattle.parts.specs.declared.ListForm.TheVariants.{Parts}
use Rattle.parts.specs.List.{PartList, parts_of}
use Rattle.rules.specs.Rules.{known}
use Rattle.tally.specs.Counts.{◌plus◌}
use Rattle.tally.specs.Rows.{parts_of_type}

-- n in the line k, and a number for each type of parts
unfoldable pub in_line : ℕ → ℕ → List ℕ
in_line k n = replicate k 0 ++ (n ∷ replicate (15 - k) 0)

unfoldable pub by_type : (ℕ → ℕ) → List ℕ
by_type f =
    replicate 9 0
    ++ (f device_features ∷ f driver_features ∷ f pci_common ∷ f device_status ∷ f queue ∷ f queue_notify ∷ 0 ∷ [])

unfoldable pub part_adds : ℕ → ℕ → ℕ → List ℕ
part_adds queues t s = by_type (λ u. indicator (eqb t u and known queues t s))

unfoldable pub parts_add : ℕ → PartList → List ℕ
parts_add queues ps = by_type (λ u. parts_of_type queues u ps)

unfoldable pub contents_add : ℕ → List ℕ → List ℕ
contents_add queues c = parts_add queues (parts_of Parts c) plus in_line 15 (length c)

unfoldable pub capture_adds : ℕ → List ℕ
capture_adds line = in_line 0 1 plus in_line line 1
