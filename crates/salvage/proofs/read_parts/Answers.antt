use Rattle.std.proofs.Common.{rules}
use Rattle.parts.proofs.Reader.{part_given, cut_given}
use Rattle.salvage.proofs.Walking.{walking_start, walking-room, walking-end, walking_cut, walking-low, walking_on}
use Rattle.salvage.proofs.read_parts.Goals as goal

pub loop-part-init : goal.loop-part-init
loop-part-init c = search (rules, walking_start)

pub returns-in_default : goal.returns-in_default
returns-in_default c = walking_cut c.loop-part.invariant (cut_given c.in-Some.ensures.steps c.in_default.is)

pub take_part-requires : goal.take_part-requires
take_part-requires c = walking-room c.loop-part.invariant

pub overflow_add-stop : goal.overflow_add-stop
overflow_add-stop c = let i = walking-low c.loop-part.invariant (part_given c.in-Some.ensures.steps c.in-Ok.is) in search rules

pub overflow_add-stop-in-loop-part : goal.overflow_add-stop-in-loop-part
overflow_add-stop-in-loop-part c =
    let i = walking-low c.loop-part.invariant (part_given c.in-Some.ensures.steps c.in-Ok.is) in search rules

pub loop-part-preserved : goal.loop-part-preserved
loop-part-preserved c = walking_on c.loop-part.invariant (part_given c.in-Some.ensures.steps c.in-Ok.is) c.take_part.ensures

pub returns : goal.returns
returns c = walking-end c.loop-part.invariant c.in-None.ensures.steps.first.0
