use borrow.Author.Rules.{rules}
use Rattle.admin.proofs.OfSound.{header-there}
use Rattle.admin.proofs.Concluded.{used}
use Rattle.admin.proofs.use_list.Goals as goal

pub set_in_use-requires : goal.set_in_use-requires
set_in_use-requires c = search (rules, header-there)

pub returns : goal.returns
returns c = search (rules, used)
