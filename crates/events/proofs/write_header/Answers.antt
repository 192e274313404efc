-- Three writes, one after the other.
use mathlib.Core.Path.{◌≡◌}
use borrow.Author.Rules.{rules}
use lib.ListN.{length}
use Rattle.member.specs.Member.{features_size}
use Rattle.events.proofs.WriteLaws.{header-written}
use Rattle.events.proofs.write_header.Goals as goal

pub returns : goal.returns
returns c = let features-long : length c.args.s.features ≡ features_size = search rules in
    search (rules, header-written)
