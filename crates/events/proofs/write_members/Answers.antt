use borrow.Author.Rules.{rules}
use Rattle.events.proofs.WriteLaws.{writing_start, writing-has, writing-on, writing-end}
use Rattle.events.proofs.write_members.Goals as goal

pub loop-m-init : goal.loop-m-init
loop-m-init c = search (rules, writing_start)

pub write_record-requires : goal.write_record-requires
write_record-requires c = search (rules, writing-has)

pub loop-m-preserved : goal.loop-m-preserved
loop-m-preserved c = search (rules, writing-on)

pub returns : goal.returns
returns c = search (rules, writing-end)
