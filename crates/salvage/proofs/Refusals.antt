-- What is not refused has the lengths that the walk and the writers ask. Assumes nothing.
use mathlib.Core.Path.{◌≡◌, sym, ◌∙◌}
use mathlib.Core.Bool.{Bool, false, not, ◌&&◌}
use mathlib.Core.List.{List}
use Prim.Native.Nat.{ℕ}
use native.Mathlib.Omega.{arith}
use borrow.Author.Tests.{eqb-true, leb-true, not-false}
use lib.Dec.{leb, eqb}
use lib.ListN.{length}
use Rattle.theory.specs.Logic.{within}
use Rattle.theory.proofs.Tests.{both, within-high, and-bits}
use Rattle.inventory.specs.Inventory.{features_size, part_count, parts_size}
use Rattle.parts.specs.List.{longest_list}
use Rattle.salvage.specs.Salvage.{is_taken}
use Rattle.salvage.specs.Walk.{Fits}

-- the code's tests, joined by `&`
pub taken-tests : (q f d l k n size count : ℕ) → size ≡ parts_size q → count ≡ part_count q
    → ((((((leb 1 q && leb q 4) && eqb f features_size) && leb d longest_list) && leb size l) && leb count k) && leb 4 n) ≡ is_taken q f d l k n
unfolding is_taken within
taken-tests q f d l k n size count e c = rw (e, c) (simp and-bits)

-- b is what is_taken answered
pub taken-fits : (q : ℕ) (features damaged list kept dropped : List ℕ) (b : Bool)
    → b ≡ is_taken q (length features) (length damaged) (length list) (length kept) (length dropped) → not b ≡ false
    → Fits q features damaged list kept dropped
unfolding is_taken
taken-fits q features damaged list kept dropped b told taken =
    let a = both _ _ (sym told ∙ not-false b taken) in
    let c = both _ _ a.0 in
    let d = both _ _ c.0 in
    let e = both _ _ d.0 in
    let f = both _ _ e.0 in
    record {
      few = omega (arith, within-high 1 4 q f.0);
      features-long = eqb-true _ _ f.1;
      short = leb-true _ _ e.1;
      list-room = leb-true _ _ d.1;
      kept-room = leb-true _ _ c.1;
      dropped-room = leb-true _ _ a.1;
    }
