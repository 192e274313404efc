use borrow.Author.Rules.{rules}
use Rattle.reply.proofs.Result.{headers-fit, size-nothing, size-kind, size_number, size-headers, size-selected, size-all}
use Rattle.reply.proofs.result_bytes.Goals as goal

pub overflow_add-result : goal.overflow_add-result
overflow_add-result c = search (rules, headers-fit)

pub returns-in-Nothing : goal.returns-in-Nothing
returns-in-Nothing c = size-nothing _ _ _ c.in-Nothing.is

pub returns-in-Kind : goal.returns-in-Kind
returns-in-Kind c = size-kind _ _ _ _ c.in-Kind.is

pub returns-in-Number : goal.returns-in-Number
returns-in-Number c = size_number _ _ _ _ c.in-Number.is

pub returns-in-Headers : goal.returns-in-Headers
returns-in-Headers c = size-headers _ _ _ _ c.in-Headers.is c.headers_bytes.ensures

pub returns-in-Selected : goal.returns-in-Selected
returns-in-Selected c = size-selected _ _ _ _ c.in-Selected.is c.asked_bytes.ensures

pub returns-in-All : goal.returns-in-All
returns-in-All c = size-all _ _ _ _ c.in-All.is c.requires c.parts_size.ensures
