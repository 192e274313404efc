use borrow.Author.Rules.{rules}
use Rattle.setups.proofs.Fields.{bits-start, bits-twice, bits-more, bits-on, bits-end, bits_small}
use Rattle.setups.proofs.reader.bits.Goals as goal

pub loop-i-init : goal.loop-i-init
loop-i-init c = search (rules, bits-start)

pub overflow_mul-number : goal.overflow_mul-number
overflow_mul-number c = search (rules, bits-twice)

pub overflow_add-number : goal.overflow_add-number
overflow_add-number c = search (rules, bits-more)

pub loop-i-preserved : goal.loop-i-preserved
loop-i-preserved c = search (rules, bits-on)

pub returns : goal.returns
returns c = (search (rules, bits-end), search (rules, bits_small))
