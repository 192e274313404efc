-- The claims of specs/Claims.antt hold. Assumes nothing.
use mathlib.Core.Path.{◌∙◌}
use Rattle.inventory.specs.Inventory.{row_at, present}
use Rattle.parts.specs.declared.ListForm.TheVariants.{Parts}
use Rattle.parts.specs.List.{parts_of}
use Rattle.salvage.specs.Salvage.{fresh_value, kept_item, kept_report}
use Rattle.salvage.specs.Claims.{KeepsOrFills, AddsUp, Claims}
use Rattle.salvage.proofs.Flags.{length-one, length-byte}
use Rattle.salvage.proofs.Values.{few, kept-stands, kept-none, list-passes, value_written}
use Rattle.salvage.proofs.Totals.{report-total}
use Rattle.salvage.proofs.Undamaged.{comes_back}
use Rattle.salvage.proofs.Stops.{stops-at-cut}

keeps-or-fills : KeepsOrFills
keeps-or-fills q features l g i r =
    record {
      kept = λ y. rw (value_written q features l g i r) (kept-stands q features (row_at i).part_type (row_at i).selector (fresh_value q features i) (parts_of Parts l) y);
      filled = λ n. value_written q features l g i r ∙ kept-none q features (row_at i).part_type (row_at i).selector (fresh_value q features i) (parts_of Parts l) n;
    }

adds-up : AddsUp
unfolding kept_report kept_item
adds-up q features l g =
    record {
      rows = length-one q (kept_item q features l) (few q features l g) (λ i. length-byte (present q (row_at i)) _);
      parts = report-total q features l g.long;
    }

pub claims : Claims
claims = record { passes = list-passes; keeps-or-fills = keeps-or-fills; adds-up = adds-up; comes_back = comes_back; stops-at-cut = stops-at-cut }
