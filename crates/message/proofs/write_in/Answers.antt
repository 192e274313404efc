use Rattle.std.proofs.Common.{rules}
use Rattle.message.proofs.Decoded.{write-cut, write-other, write-whole}
use borrow.Author.Rules.{rules}
use Rattle.message.proofs.write_in.Goals as goal

pub returns-then-message-lt-DATA_AT : goal.returns-then-message-lt-DATA_AT
returns-then-message-lt-DATA_AT c = search (rules, write-cut)

pub returns-then-message-length : goal.returns-then-message-length
returns-then-message-length c = search (rules, write-other)

pub returns : goal.returns
returns c = search (rules, write-whole)
