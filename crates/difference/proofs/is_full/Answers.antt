use mathlib.Core.Path.{refl, sym}
use borrow.Author.Rules.{rules}
use Rattle.inventory.specs.Inventory.{row_at, rows}
use Rattle.difference.proofs.Full.{rows_out, rows_on, rows_end}
use Rattle.difference.proofs.is_full.Goals as goal

pub loop-row-init : goal.loop-row-init
loop-row-init c = refl

pub returns-then-not-has_row : goal.returns-then-not-has_row
unfolding row_at rows
returns-then-not-has_row c = search (sym, rows_out)

pub loop-row-preserved : goal.loop-row-preserved
unfolding row_at rows
loop-row-preserved c = search (rules, rows_on)

pub returns : goal.returns
returns c = search (rules, sym, rows_end)
