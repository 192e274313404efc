use borrow.Author.Rules.{rules}
use Rattle.host.proofs.Building.{sent-supported, fixed-within, start-sum, request-sum, start_fits, too_long, no_room, begun-now}
use Rattle.host.proofs.begin.Goals as goal

pub fixed_size-fixed-requires : goal.fixed_size-fixed-requires
fixed_size-fixed-requires c = search (rules, sent-supported)

pub overflow_sub-fixed : goal.overflow_sub-fixed
overflow_sub-fixed c = search (rules, fixed-within)

pub returns-then-fixed-list : goal.returns-then-fixed-list
returns-then-fixed-list c = search (rules, too_long)

pub overflow_add-n : goal.overflow_add-n
overflow_add-n c = search (rules, start-sum)

pub overflow_add-n-2 : goal.overflow_add-n-2
overflow_add-n-2 c = search (rules, request-sum)

pub returns-then-out-n : goal.returns-then-out-n
returns-then-out-n c = search (rules, no_room)

pub write_start-requires : goal.write_start-requires
write_start-requires c = start_fits _ _ c.sent_of-s.ensures _ c.fixed_size-fixed.ensures _ _ c.if-out-n.false

pub returns : goal.returns
returns c = search (rules, begun-now)
