use borrow.Author.Rules.{rules}
use Rattle.decimal.proofs.Digits.{one-room, one_end, one-put, tens-less, tens-room, last-room, last_fits, last_end, last-put}
use Rattle.decimal.proofs.+put_decimal.Goals as goal

pub bounds-out-at : goal.bounds-out-at
bounds-out-at t c = search (rules, one-room)

pub overflow_add-result : goal.overflow_add-result
overflow_add-result t c = search (rules, one-room)

pub returns-then-n-lt10 : goal.returns-then-n-lt10
returns-then-n-lt10 t c = (search (rules, one-put), search (rules, one_end))

pub put_decimal-next-requires : goal.put_decimal-next-requires
put_decimal-next-requires t c = (search (rules, tens-less), search (rules, tens-room))

pub bounds-out-next : goal.bounds-out-next
bounds-out-next t c = search (rules, last-room)

pub overflow_add-result-2 : goal.overflow_add-result-2
overflow_add-result-2 t c = search (rules, last_fits)

pub returns : goal.returns
returns t c = (search (rules, last-put), search (rules, last_end))
