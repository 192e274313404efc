use mathlib.Core.Path.{◌≡◌}
use borrow.Author.Rules.{rules}
use lib.ListN.{length}
use Rattle.changes.proofs.accepts.Goals as goal

pub slice_bounds-check_list-end : goal.slice_bounds-check_list-end
slice_bounds-check_list-end c = let h : length c.args.m.values ≡ 205 = search rules in search rules

pub returns : goal.returns
returns c = cc
