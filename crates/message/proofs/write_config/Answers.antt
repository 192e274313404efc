use Rattle.std.proofs.Common.{rules}
use Rattle.message.proofs.Acted.{data-there, applied-inside, write-acted, write_kept}
use borrow.Author.Rules.{rules}
use Rattle.message.proofs.write_config.Goals as goal

pub apply-requires : goal.apply-requires
apply-requires c = (search rules, search (rules, data-there), search (rules, applied-inside))

pub returns-then-is_applied : goal.returns-then-is_applied
returns-then-is_applied c = search (rules, write-acted)

pub returns : goal.returns
returns c = search (rules, write_kept)
