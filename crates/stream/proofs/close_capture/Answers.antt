use borrow.Author.Rules.{rules}
use Rattle.stream.proofs.Totals.{counts-room}
use Rattle.stream.proofs.Feeding.{closes}
use Rattle.stream.proofs.close_capture.Goals as goal

pub count_capture-requires : goal.count_capture-requires
count_capture-requires c = (search counts-room, search rules)

pub returns : goal.returns
returns c = search closes
