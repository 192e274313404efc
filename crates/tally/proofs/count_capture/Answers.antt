use Rattle.tally.proofs.Captures.{line_low, room-more, contents-room, accepted-counted, refused-counted}
use Rattle.tally.proofs.count_capture.Goals as goal

pub with_capture-requires : goal.with_capture-requires
with_capture-requires c = (search contents-room, search line_low)

pub returns-then-line-eq-ACCEPTED : goal.returns-then-line-eq-ACCEPTED
returns-then-line-eq-ACCEPTED c = search accepted-counted

pub with_capture-requires-2 : goal.with_capture-requires-2
with_capture-requires-2 c = (search room-more, search line_low)

pub returns : goal.returns
returns c = search refused-counted
