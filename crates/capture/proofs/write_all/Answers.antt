-- A run for each type and size, each where the one before it ends.
use Rattle.inventory.specs.Inventory.{row_at, rows}
use Rattle.capture.proofs.Runs.{upto-none, run-asks, upto_next, upto_all}
use Rattle.capture.proofs.write_all.Goals as goal

pub write_run-at-requires : goal.write_run-at-requires
unfolding row_at rows
write_run-at-requires c =
    let w0 = upto-none c.requires in
    run-asks w0 tt

pub write_run-at-requires-2 : goal.write_run-at-requires-2
unfolding row_at rows
write_run-at-requires-2 c =
    let w0 = upto-none c.requires in
    let w1 = upto_next w0 tt c.write_run-at.ensures in
    run-asks w1 tt

pub write_run-at-requires-3 : goal.write_run-at-requires-3
unfolding row_at rows
write_run-at-requires-3 c =
    let w0 = upto-none c.requires in
    let w1 = upto_next w0 tt c.write_run-at.ensures in
    let w2 = upto_next w1 tt c.write_run-at-2.ensures in
    run-asks w2 tt

pub write_run-at-requires-4 : goal.write_run-at-requires-4
unfolding row_at rows
write_run-at-requires-4 c =
    let w0 = upto-none c.requires in
    let w1 = upto_next w0 tt c.write_run-at.ensures in
    let w2 = upto_next w1 tt c.write_run-at-2.ensures in
    let w3 = upto_next w2 tt c.write_run-at-3.ensures in
    run-asks w3 tt

pub write_run-at-requires-5 : goal.write_run-at-requires-5
unfolding row_at rows
write_run-at-requires-5 c =
    let w0 = upto-none c.requires in
    let w1 = upto_next w0 tt c.write_run-at.ensures in
    let w2 = upto_next w1 tt c.write_run-at-2.ensures in
    let w3 = upto_next w2 tt c.write_run-at-3.ensures in
    let w4 = upto_next w3 tt c.write_run-at-4.ensures in
    run-asks w4 tt

pub write_run-at-requires-6 : goal.write_run-at-requires-6
unfolding row_at rows
write_run-at-requires-6 c =
    let w0 = upto-none c.requires in
    let w1 = upto_next w0 tt c.write_run-at.ensures in
    let w2 = upto_next w1 tt c.write_run-at-2.ensures in
    let w3 = upto_next w2 tt c.write_run-at-3.ensures in
    let w4 = upto_next w3 tt c.write_run-at-4.ensures in
    let w5 = upto_next w4 tt c.write_run-at-5.ensures in
    run-asks w5 tt

pub write_run-requires : goal.write_run-requires
unfolding row_at rows
write_run-requires c =
    let w0 = upto-none c.requires in
    let w1 = upto_next w0 tt c.write_run-at.ensures in
    let w2 = upto_next w1 tt c.write_run-at-2.ensures in
    let w3 = upto_next w2 tt c.write_run-at-3.ensures in
    let w4 = upto_next w3 tt c.write_run-at-4.ensures in
    let w5 = upto_next w4 tt c.write_run-at-5.ensures in
    let w6 = upto_next w5 tt c.write_run-at-6.ensures in
    run-asks w6 tt

pub shape_of-out : goal.shape_of-out
shape_of-out c =
    let w0 = upto-none c.requires in
    let w1 = upto_next w0 tt c.write_run-at.ensures in
    let w2 = upto_next w1 tt c.write_run-at-2.ensures in
    let w3 = upto_next w2 tt c.write_run-at-3.ensures in
    let w4 = upto_next w3 tt c.write_run-at-4.ensures in
    let w5 = upto_next w4 tt c.write_run-at-5.ensures in
    let w6 = upto_next w5 tt c.write_run-at-6.ensures in
    let w7 = upto_next w6 tt c.write_run.ensures in
    w7.written.long

pub returns : goal.returns
returns c =
    let w0 = upto-none c.requires in
    let w1 = upto_next w0 tt c.write_run-at.ensures in
    let w2 = upto_next w1 tt c.write_run-at-2.ensures in
    let w3 = upto_next w2 tt c.write_run-at-3.ensures in
    let w4 = upto_next w3 tt c.write_run-at-4.ensures in
    let w5 = upto_next w4 tt c.write_run-at-5.ensures in
    let w6 = upto_next w5 tt c.write_run-at-6.ensures in
    let w7 = upto_next w6 tt c.write_run.ensures in
    upto_all w7
