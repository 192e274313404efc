use borrow.Author.Rules.{rules}
use Rattle.reply.proofs.Result.{result-nothing, result-kind, result-number, result-headers, result-selected, result-all, fits-kind, fits-number, fits-headers, fits-selected, fits_all}
use Rattle.reply.proofs.write_result.Goals as goal

pub write_number-requires : goal.write_number-requires
write_number-requires c = search (rules, fits-kind)

pub write_number-requires-in-Number : goal.write_number-requires-in-Number
write_number-requires-in-Number c = search (rules, fits-number)

pub write_metadata_list-requires : goal.write_metadata_list-requires
write_metadata_list-requires c = search (rules, fits-headers)

pub write_asked-requires : goal.write_asked-requires
write_asked-requires c = (search rules, search (rules, fits-selected))

pub write_all-requires : goal.write_all-requires
write_all-requires c = search (rules, fits_all)

pub returns-in-Nothing : goal.returns-in-Nothing
returns-in-Nothing c = search (result-nothing)

pub returns-in-Kind : goal.returns-in-Kind
returns-in-Kind c = search (result-kind)

pub returns-in-Number : goal.returns-in-Number
returns-in-Number c = search (result-number)

pub returns-in-Headers : goal.returns-in-Headers
returns-in-Headers c = search (result-headers)

pub returns-in-Selected : goal.returns-in-Selected
returns-in-Selected c = search (result-selected)

pub returns-in-All : goal.returns-in-All
returns-in-All c = search (result-all)
