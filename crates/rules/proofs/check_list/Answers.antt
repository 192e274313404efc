use Rattle.std.proofs.Common.{rules, sym, ◌∙◌}
use native.Mathlib.Omega.{arith}
use Rattle.inventory.specs.Inventory.{row_at, rows}
use Rattle.inventory.proofs.Places.{row_in}
use Rattle.parts.proofs.Reader.{part_given, cut_given, selector_given}
use Rattle.rules.proofs.Seen.{none}
use Rattle.rules.proofs.Causes.{cause-start, cause-end, cause-cut, cause-absent, cause-row}
use Rattle.rules.proofs.check_list.Goals as goal

pub loop-part-init : goal.loop-part-init
unfolding none
loop-part-init c = search (rules, cause-start)

pub returns-in_default : goal.returns-in_default
returns-in_default c = cause-cut _ _ _ _ _ c.loop-part.invariant (cut_given c.in-Some.ensures.steps c.in_default.is)

pub loop-part-preserved-in_default-place_of : goal.loop-part-preserved-in_default-place_of
loop-part-preserved-in_default-place_of c =
    let n = selector_given c.in-Some.ensures.steps c.in-Ok.is in
    rw c.first_of-first.ensures
    (cause-absent _ _ _ _ _ c.loop-part.invariant _ _ _ _ (part_given c.in-Some.ensures.steps c.in-Ok.is) _
    n.0 n.1 (sym c.in_default-place_of.ensures) c.check_absent.ensures)

pub offset_bounds-rows-i : goal.offset_bounds-rows-i
offset_bounds-rows-i c =
    let l = row_in _ _ _ _ c.place_of.ensures _ c.in-Some-place_of.is in
    omega arith

pub bounds-rows-i : goal.bounds-rows-i
bounds-rows-i c = search (rules, row_in)

pub bounds-seen-i : goal.bounds-seen-i
bounds-seen-i c = search (rules, row_in)

pub bounds-seen-i-in-loop-part : goal.bounds-seen-i-in-loop-part
bounds-seen-i-in-loop-part c = search (rules, row_in)

pub loop-part-preserved : goal.loop-part-preserved
unfolding row_at rows
loop-part-preserved c =
    rw c.first_of-first-in-loop-part.ensures
    (cause-row _ _ _ _ _ c.loop-part.invariant _ _ _ _ (part_given c.in-Some.ensures.steps c.in-Ok.is) _
    c.in-Some-place_of.i (sym c.in-Some-place_of.ensures) c.check_row.ensures)

pub returns : goal.returns
returns c = c.decide.ensures ∙ cause-end _ _ _ _ _ c.loop-part.invariant c.in-None.ensures.steps.first.0
