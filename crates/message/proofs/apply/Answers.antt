use Rattle.std.proofs.Common.{rules}
use Rattle.message.proofs.Acted.{bytes-few, bytes_inside, apply-short, apply-done}
use borrow.Author.Rules.{rules}
use Rattle.message.proofs.apply.Goals as goal

pub write_response-size-requires : goal.write_response-size-requires
write_response-size-requires c = (search rules, search (rules, bytes-few))

pub returns-then-size-eq0 : goal.returns-then-size-eq0
returns-then-size-eq0 c = search (rules, apply-short)

pub write_configuration-requires : goal.write_configuration-requires
write_configuration-requires c = (search rules, search (rules, bytes_inside))

pub returns : goal.returns
returns c = search (rules, apply-done)
