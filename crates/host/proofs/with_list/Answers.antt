use borrow.Author.Rules.{rules}
use Rattle.host.proofs.Building.{list-within, list-fits, list-refused, list-built}
use Rattle.host.proofs.with_list.Goals as goal

pub returns-then-n-eq0 : goal.returns-then-n-eq0
returns-then-n-eq0 c = search (rules, list-refused)

pub overflow_sub-n : goal.overflow_sub-n
overflow_sub-n c = search (rules, list-within)

pub copy-requires : goal.copy-requires
copy-requires c = search (rules, list-fits)

pub returns : goal.returns
returns c = search (rules, list-built)
