use borrow.Author.Rules.{rules}
use Rattle.admin.proofs.OfSound.{header-there, length-there, ids-few}
use Rattle.admin.proofs.OfRequest.{is-asked}
use Rattle.admin.proofs.asked.Goals as goal

pub setup_of-s-requires : goal.setup_of-s-requires
setup_of-s-requires c = search (rules, header-there)

pub overflow_add-ids : goal.overflow_add-ids
overflow_add-ids c = search (rules, ids-few)

pub is_marked-marked-requires : goal.is_marked-marked-requires
is_marked-marked-requires c = search (rules, length-there)

pub in_use-requires : goal.in_use-requires
in_use-requires c = search (rules, header-there)

pub returns : goal.returns
returns c = search (rules, is-asked)
