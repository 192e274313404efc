-- The value, then the header.
use borrow.Author.Rules.{rules}
use Rattle.capture.proofs.Writes.{wrote-part}
use Rattle.capture.proofs.write_part.Goals as goal

pub returns : goal.returns
returns c = search (rules, wrote-part)
