-- The second word, then the first.
use borrow.Author.Rules.{rules}
use Rattle.inventory.proofs.Headers.{header-put}
use Rattle.inventory.proofs.Row.write_header.Goals as goal

pub returns : goal.returns
returns c = search (rules, header-put)
