use borrow.Author.Rules.{rules}
use Rattle.decimal.proofs.Digits.{line-name, line-space, line-number, line-feed, line-fits, line_same, line-put, line-end}
use Rattle.decimal.proofs.put_line.Goals as goal

pub copy-requires : goal.copy-requires
copy-requires c = search (rules, line-name)

pub bounds-out-space : goal.bounds-out-space
bounds-out-space c = search (rules, line-space)

pub put_decimal-end-requires : goal.put_decimal-end-requires
put_decimal-end-requires c = search (rules, line-number)

pub bounds-out-end : goal.bounds-out-end
bounds-out-end c = search (rules, line-feed)

pub overflow_add-result : goal.overflow_add-result
overflow_add-result c = search (rules, line-fits)

pub shape_of-out : goal.shape_of-out
shape_of-out c = search (rules, line_same)

pub returns : goal.returns
returns c = (search (rules, line-put), search (rules, line-end))
