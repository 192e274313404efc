use mathlib.Core.Path.{sym, ◌∙◌}
use Prim.Native.Nat.{◌≤◌}
use native.Mathlib.Omega.{arith}
use borrow.Author.Rules.{rules}
use Rattle.inventory.specs.Inventory.{row_at, rows}
use Rattle.capture.specs.Capture.{Asked}
use Rattle.theory.proofs.Sums.{sum-start, sum-on, summed}
use Rattle.capture.proofs.Sizes.{parts-length}
use Rattle.capture.proofs.Writes.{row-most}
use Rattle.capture.proofs.asked_bytes.Goals.{After-asked_size-n}
use Rattle.capture.proofs.asked_bytes.Goals as goal

most : (c : After-asked_size-n) → c.asked_size-n.result ≤ 272
unfolding row_at rows
most c = search (rules, row-most)

pub loop-row-init : goal.loop-row-init
loop-row-init c = (omega arith, sum-start _ _)

pub overflow_add-n : goal.overflow_add-n
overflow_add-n c = let m = most c in omega arith

pub loop-row-preserved : goal.loop-row-preserved
unfolding row_at rows
loop-row-preserved c = let m = most c in (omega arith, search (rules, sum-on))

pub returns : goal.returns
returns c = λ v e. summed _ _ _ _ c.loop-row.invariant.1 c.loop-row-test.false ∙ sym (parts-length Asked _ _ v e)
