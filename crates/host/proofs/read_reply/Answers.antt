use borrow.Author.Rules.{rules}
use Rattle.theory.proofs.Ladder.{ladder}
use Rattle.host.specs.Reply.{read_reply}
use Rattle.host.proofs.Reply.{wrong-length, all_read}
use Rattle.host.proofs.read_reply.Goals as goal

pub returns-then-not-supported : goal.returns-then-not-supported
unfolding read_reply
returns-then-not-supported c = search ladder

pub returns-then-reply-lt-HEAD_SIZE : goal.returns-then-reply-lt-HEAD_SIZE
unfolding read_reply
returns-then-reply-lt-HEAD_SIZE c = search ladder

pub returns-then-not-length_right : goal.returns-then-not-length_right
returns-then-not-length_right c = search (rules, wrong-length)

pub returns : goal.returns
returns c = search (rules, all_read)
