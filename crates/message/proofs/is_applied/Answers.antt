use Rattle.std.proofs.Common.{rules}
use Rattle.theory.proofs.Ladder.{ladder}
use Rattle.message.specs.Message.{is_applied}
use borrow.Author.Rules.{rules}
use Rattle.message.proofs.is_applied.Goals as goal

pub returns-then-n-lt1 : goal.returns-then-n-lt1
unfolding is_applied
returns-then-n-lt1 c = search ladder

pub returns-then-sent-current : goal.returns-then-sent-current
unfolding is_applied
returns-then-sent-current c = search ladder

pub is_inside-requires : goal.is_inside-requires
unfolding is_applied
is_inside-requires c = search rules

pub returns : goal.returns
unfolding is_applied
returns c = search ladder depth 9
