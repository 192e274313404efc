use native.Mathlib.Omega.{arith}
use borrow.Author.Rules.{rules}
use Rattle.capture.proofs.Runs.{run-start, run_small, run_inside, run_room, run-low, run_on, run_end}
use Rattle.capture.proofs.write_run.Goals as goal

pub loop-init : goal.loop-init
loop-init c = let p = c.requires in run-start _ _ _ _ _ p.alike p.long _ _ p.room

pub write_part-end-requires : goal.write_part-end-requires
write_part-end-requires c = let p = c.requires in
    let w = c.loop.invariant in
    let h = c.loop-test.true in (
      run_small _ _ _ _ _ p.alike p.long _ _ _ _ _ _ w h,
      run_inside _ _ _ _ _ p.alike p.long _ _ _ _ _ _ w h,
      run_room _ _ _ _ _ p.alike p.long _ _ _ _ _ _ w h,
    )

pub overflow_add-next : goal.overflow_add-next
overflow_add-next c = let p = c.requires in
    let l = run_inside _ _ _ _ _ p.alike p.long _ _ _ _ _ _ c.loop.invariant c.loop-test.true in
    omega (arith, p.long)

pub overflow_add-next-in-loop : goal.overflow_add-next-in-loop
overflow_add-next-in-loop c = let p = c.requires in
    run-low _ _ _ _ _ p.alike p.long _ _ _ _ _ _ c.loop.invariant c.loop-test.true

pub loop-preserved : goal.loop-preserved
loop-preserved c = let p = c.requires in
    run_on _ _ _ _ _ p.alike p.long _ _ _ _ _ _ c.loop.invariant c.loop-test.true _ _ c.write_part-end.ensures

pub returns : goal.returns
returns c = search (rules, run_end)
