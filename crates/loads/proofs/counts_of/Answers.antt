use borrow.Author.Rules.{rules}
use Rattle.loads.proofs.CallLaws.{bytes-lent}
use Rattle.loads.proofs.SetupLaws.{counts_start, counts-has, counts-on, counts_end}
use Rattle.loads.proofs.counts_of.Goals as goal

pub loop-i-init : goal.loop-i-init
loop-i-init c = search (rules, counts_start)

pub member_bytes-requires : goal.member_bytes-requires
member_bytes-requires c = search (rules, counts-has)

pub loop-i-preserved : goal.loop-i-preserved
loop-i-preserved c = search (rules, counts-on)

pub returns : goal.returns
returns c = search (rules, counts_end)
