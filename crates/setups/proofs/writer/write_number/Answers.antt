use borrow.Author.Rules.{rules}
use Rattle.setups.proofs.Writing.{number-on, number-end}
use Rattle.setups.proofs.writer.write_number.Goals as goal

pub loop-i-preserved : goal.loop-i-preserved
loop-i-preserved c = search (rules, number-on)

pub returns : goal.returns
returns c = search (rules, number-end)
