use Rattle.std.proofs.Common.{rules}
use Rattle.message.proofs.Acted.{lent-long, readable-few, read-acted}
use borrow.Author.Rules.{rules}
use Rattle.message.proofs.read_config.Goals as goal

pub readable-bytes-requires : goal.readable-bytes-requires
readable-bytes-requires c = search (rules, lent-long)

pub write_response-requires : goal.write_response-requires
write_response-requires c = (search rules, search (rules, readable-few))

pub returns : goal.returns
returns c = search (rules, read-acted)
