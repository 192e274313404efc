use Rattle.std.proofs.Common.{rules}
use Rattle.parts.proofs.Reader.{part_given, cut_given}
use Rattle.tally.proofs.Walk.{counting-start, counting-room, counting-on, counting-end, counting_cut}
use Rattle.tally.proofs.count_parts.Goals as goal

pub loop-part-init : goal.loop-part-init
loop-part-init c = search (rules, counting-start)

pub returns-in_default : goal.returns-in_default
returns-in_default c = counting_cut c.loop-part.invariant (cut_given c.in-Some.ensures.steps c.in_default.is)

pub count_part-requires : goal.count_part-requires
count_part-requires c = counting-room c.loop-part.invariant c.requires.0 c.requires.1

pub loop-part-preserved : goal.loop-part-preserved
loop-part-preserved c = counting-on c.loop-part.invariant (part_given c.in-Some.ensures.steps c.in-Ok.is) c.count_part.ensures

pub returns : goal.returns
returns c = counting-end c.loop-part.invariant c.in-None.ensures.steps.first.0
