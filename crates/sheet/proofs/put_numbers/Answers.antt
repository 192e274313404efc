use mathlib.Core.Path.{◌≡◌, ap, ◌∙◌}
use mathlib.Core.List.{List, map}
use Prim.Native.Nat.{ℕ, ◌≤◌, ◌<◌}
use native.Mathlib.Omega.{arith}
use denote.Ref.{Bor}
use lib.ListN.{length}
use Rattle.std.proofs.lemmas.Slice.Zip.{zip_turn, zip_end}
use Rattle.std.proofs.lemmas.List.{length_push}
use Rattle.theory.proofs.Items.{written_start, written-end}
use Rattle.tally.specs.Rows.{row_count, rows}
use Rattle.sheet.proofs.Names.{names, name-is, names-many}
use Rattle.sheet.proofs.Lines.{number-room, number-on, numbers-end}
use Rattle.sheet.proofs.put_numbers.Goals as goal

pub loop-name-init : goal.loop-name-init
loop-name-init c = written_start _ row_count 0 _ (omega arith)

pub put_line-at-requires : goal.put_line-at-requires
unfolding rows
put_line-at-requires c =
    let e : map (λ (x : Bor (List ℕ)). x.now) c.iter.result.rest.now ≡ names = ap (map (λ (x : Bor (List ℕ)). x.now)) c.iter.ensures.rest in
    let t = zip_turn c.iter.result.rest.now c.args.counts.now c.loop-name.yielded c.into_iter-name-iterator.result c.loop-name.name-iterator c.next.new.self c.next.result (cc) (cc) c.loop-name.yielded_by (c.in-Some.name, c.in-Some.n) c.in-Some.is c.next.ensures.steps in
    let name = c.as_bytes.ensures.value ∙ name-is c.iter.result.rest.now e _ c.in-Some.name.now t.0 (t.2 c.in-Some.name.now) in
    let l : length c.loop-name.yielded < row_count = omega (arith, t.0, names-many c.iter.result.rest.now e) in
    rw (name, t.3 0) (number-room _ _ _ _ _ c.loop-name.invariant l)

pub loop-name-preserved : goal.loop-name-preserved
unfolding rows
loop-name-preserved c =
    let e : map (λ (x : Bor (List ℕ)). x.now) c.iter.result.rest.now ≡ names = ap (map (λ (x : Bor (List ℕ)). x.now)) c.iter.ensures.rest in
    let t = zip_turn c.iter.result.rest.now c.args.counts.now c.loop-name.yielded c.into_iter-name-iterator.result c.loop-name.name-iterator c.next.new.self c.next.result (cc) (cc) c.loop-name.yielded_by (c.in-Some.name, c.in-Some.n) c.in-Some.is c.next.ensures.steps in
    let name = c.as_bytes.ensures.value ∙ name-is c.iter.result.rest.now e _ c.in-Some.name.now t.0 (t.2 c.in-Some.name.now) in
    let l : length c.loop-name.yielded < row_count = omega (arith, t.0, names-many c.iter.result.rest.now e) in
    let made = rw (name, t.3 0) at c.put_line-at.ensures in
    rw length_push (number-on _ _ _ _ _ c.loop-name.invariant l _ _ made.0 made.1)

pub returns : goal.returns
unfolding rows
returns c =
    let e : map (λ (x : Bor (List ℕ)). x.now) c.iter.result.rest.now ≡ names = ap (map (λ (x : Bor (List ℕ)). x.now)) c.iter.ensures.rest in
    let t = zip_end c.iter.result.rest.now c.args.counts.now c.loop-name.yielded c.into_iter-name-iterator.result c.loop-name.name-iterator c.next.new.self c.next.result (cc) (cc) c.loop-name.yielded_by c.in-None.is c.next.ensures.steps in
    let l : row_count ≤ length c.loop-name.yielded = omega (arith, t, names-many c.iter.result.rest.now e, c.told-counts) in
    (written-end _ _ _ _ _ _ _ c.loop-name.invariant l, numbers-end _ _ _ _ _ c.loop-name.invariant l)
