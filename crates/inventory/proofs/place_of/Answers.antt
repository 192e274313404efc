-- A law for the row of each type.
use borrow.Author.Rules.{rules}
use Rattle.inventory.proofs.Worked.{in-queues, in-notifies, in-fields, in-status, in-driver, in-features, no_rows}
use Rattle.inventory.proofs.place_of.Goals as goal

pub returns-in-260 : goal.returns-in-260
returns-in-260 c = search (rules, in-queues)

pub returns-in-261 : goal.returns-in-261
returns-in-261 c = search (rules, in-notifies)

pub returns-in-258 : goal.returns-in-258
returns-in-258 c = search (rules, in-fields)

pub returns-in-259 : goal.returns-in-259
returns-in-259 c = search (rules, in-status)

pub returns-in-257 : goal.returns-in-257
returns-in-257 c = search (rules, in-driver)

pub returns-in-256 : goal.returns-in-256
returns-in-256 c = search (rules, in-features)

pub returns-in_default : goal.returns-in_default
returns-in_default c = search (rules, no_rows)
