use Rattle.std.proofs.Common.{rules}
use Rattle.theory.proofs.Ladder.{ladder}
use Rattle.message.specs.Access.{is_request}
use borrow.Author.Rules.{rules}
use Rattle.message.proofs.is_request.Goals as goal

pub returns-then-message-lt-HEADER_SIZE : goal.returns-then-message-lt-HEADER_SIZE
unfolding is_request
returns-then-message-lt-HEADER_SIZE c = search ladder

pub bounds-message-0 : goal.bounds-message-0
unfolding is_request
bounds-message-0 c = search rules

pub returns-then-message-ne0 : goal.returns-then-message-ne0
unfolding is_request
returns-then-message-ne0 c = search ladder

pub read_u16-requires : goal.read_u16-requires
unfolding is_request
read_u16-requires c = search rules

pub overflow_cast-result : goal.overflow_cast-result
unfolding is_request
overflow_cast-result c = search rules

pub returns : goal.returns
unfolding is_request
returns c = search ladder depth 9
