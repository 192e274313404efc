use borrow.Author.Rules.{rules}
use Rattle.events.proofs.WriteLaws.{resetting-start, resetting-has, resetting-on, resetting-end}
use Rattle.events.proofs.reset_members.Goals as goal

pub loop-m-init : goal.loop-m-init
loop-m-init c = search (rules, resetting-start)

pub reset_record-requires : goal.reset_record-requires
reset_record-requires c = search (rules, resetting-has)

pub loop-m-preserved : goal.loop-m-preserved
loop-m-preserved c = search (rules, resetting-on)

pub returns : goal.returns
returns c = search (rules, resetting-end)
