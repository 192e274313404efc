use borrow.Author.Rules.{rules}
use native.Mathlib.Omega.{arith}
use Prim.Native.Nat.{◌≤◌}
use mathlib.Core.Path.{◌≡◌}
use lib.ListN.{length}
use Rattle.objects.proofs.Counts.{count-on, counted, adds-at-most-one, all-at}
use Rattle.objects.proofs.count_of.Goals as goal

pub indicator_of-n-requires : goal.indicator_of-n-requires
indicator_of-n-requires c = (search (rules, all-at), search rules, search rules)

pub overflow_add-n : goal.overflow_add-n
overflow_add-n c = let h : c.indicator_of-n.result ≤ 1 = search (rules, adds-at-most-one) in omega arith

pub loop-b-preserved : goal.loop-b-preserved
loop-b-preserved c = let h : c.indicator_of-n.result ≤ 1 = search (rules, adds-at-most-one) in (omega arith, search (rules, count-on))

pub returns : goal.returns
returns c =
    let l : length c.args.bytes.now ≡ 16 = search rules in
    counted _ _ _ _ c.loop-b.invariant.1 (omega arith)
