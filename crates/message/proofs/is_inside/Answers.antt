use Rattle.std.proofs.Common.{refl, rules}
use Rattle.message.specs.Message.{is_inside}
use borrow.Author.Rules.{rules}
use Rattle.message.proofs.is_inside.Goals as goal

pub overflow_add-result : goal.overflow_add-result
unfolding is_inside
overflow_add-result c = search rules

pub returns : goal.returns
unfolding is_inside
returns c = refl
