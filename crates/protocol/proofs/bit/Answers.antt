use borrow.Author.Rules.{rules}
use Rattle.protocol.specs.Opcodes.{bit}
use Rattle.protocol.proofs.Masks.{past_word}
use Rattle.protocol.proofs.bit.Goals as goal

pub returns-then-k-gt63 : goal.returns-then-k-gt63
unfolding bit
returns-then-k-gt63 c = search (rules, past_word)

pub overflow_shr-result : goal.overflow_shr-result
unfolding bit
overflow_shr-result c = search rules

pub returns : goal.returns
unfolding bit
returns c = search rules
