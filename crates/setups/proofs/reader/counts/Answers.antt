use borrow.Author.Rules.{rules}
use Rattle.setups.proofs.Reading.{counts_start, counts-on, counts_end}
use Rattle.setups.proofs.reader.counts.Goals as goal

pub loop-i-init : goal.loop-i-init
loop-i-init c = search (rules, counts_start)

pub loop-i-preserved : goal.loop-i-preserved
loop-i-preserved c = search (rules, counts-on)

pub returns : goal.returns
returns c = search (rules, counts_end)
