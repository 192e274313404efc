use mathlib.Core.Path.{◌≡◌}
use borrow.Author.Rules.{rules}
use lib.ListN.{length}
use Rattle.member.specs.Member.{fresh_of}
use Rattle.member.proofs.Record.{fresh-values}
use Rattle.member.proofs.Member.fresh.Goals as goal

pub returns : goal.returns
unfolding fresh_of
returns c = let n : length c.args.features ≡ 16 = search rules in
    rw (c.copy.ensures, fresh-values c.args.features n)
