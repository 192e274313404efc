use borrow.Author.Rules.{rules}
use Rattle.theory.proofs.Tests.{tests}
use Rattle.setups.proofs.Ranges.{count_less}
use Rattle.setups.proofs.writer.less_one.Goals as goal

pub overflow_sub-result : goal.overflow_sub-result
overflow_sub-result c = omega tests

pub returns : goal.returns
returns c = search (rules, count_less)
