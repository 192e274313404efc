use borrow.Author.Rules.{rules}
use Rattle.setups.proofs.Writing.{joining-start, joining-count, joining-fits, joining-sum, joining-on, joining-end, joining-room}
use Rattle.setups.proofs.writer.with_counts.Goals as goal

pub loop-count-init : goal.loop-count-init
loop-count-init c = search (rules, joining-start)

pub overflow_mul-number : goal.overflow_mul-number
overflow_mul-number c = search (rules, joining-fits)

pub less_one-requires : goal.less_one-requires
less_one-requires c = search (rules, joining-count)

pub overflow_add-number : goal.overflow_add-number
overflow_add-number c = search (rules, joining-sum)

pub loop-count-preserved : goal.loop-count-preserved
loop-count-preserved c = search (rules, joining-on)

pub returns : goal.returns
returns c = (search (rules, joining-end), search (rules, joining-room))
