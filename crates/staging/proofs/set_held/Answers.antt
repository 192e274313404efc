-- Each return is a step of `set_into`.
use borrow.Author.Rules.{rules}
use Rattle.staging.proofs.SetLaws.{no-opcode, bad-id, held-within, sets-held}
use Rattle.staging.proofs.Returns.{set-record, set-header, set-ids}
use Rattle.staging.proofs.set_held.Goals as goal

pub in_use-requires : goal.in_use-requires
in_use-requires c = search (rules, set-header)

pub returns-then-not-bit : goal.returns-then-not-bit
returns-then-not-bit c = search (rules, no-opcode)

pub setup_of-s-requires : goal.setup_of-s-requires
setup_of-s-requires c = search (rules, set-header)

pub overflow_add-ids : goal.overflow_add-ids
overflow_add-ids c = search (rules, set-ids)

pub returns-then-ids-id : goal.returns-then-ids-id
returns-then-ids-id c = search (rules, bad-id)

pub holding-requires : goal.holding-requires
holding-requires c = search (rules, set-record)

pub first-list-requires : goal.first-list-requires
first-list-requires c = search (rules, held-within)

pub returns : goal.returns
returns c = search (rules, sets-held)
