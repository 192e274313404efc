use Rattle.std.proofs.Common.{rules}
use Rattle.theory.proofs.Ladder.{ladder}
use Rattle.message.specs.Access.{read_in}
use borrow.Author.Rules.{rules}
use Rattle.message.proofs.read_in.Goals as goal

pub returns-then-message-ne-READ_SIZE : goal.returns-then-message-ne-READ_SIZE
unfolding read_in
returns-then-message-ne-READ_SIZE c = search ladder

pub member_of-requires : goal.member_of-requires
unfolding read_in
member_of-requires c = search rules

pub read_u32-requires : goal.read_u32-requires
unfolding read_in
read_u32-requires c = search rules

pub read_u32-requires-2 : goal.read_u32-requires-2
unfolding read_in
read_u32-requires-2 c = search rules

pub returns : goal.returns
unfolding read_in
returns c = search ladder
