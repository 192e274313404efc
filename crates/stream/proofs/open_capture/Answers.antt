use borrow.Author.Rules.{rules}
use Rattle.stream.proofs.Feeding.{opened-empty, opened-held, opened-long}
use Rattle.stream.proofs.open_capture.Goals as goal

pub close_capture-requires : goal.close_capture-requires
close_capture-requires c = (search rules, search rules)

pub returns-then-n-eq0 : goal.returns-then-n-eq0
returns-then-n-eq0 c = search opened-empty

pub returns-then-n-le-LONGEST : goal.returns-then-n-le-LONGEST
returns-then-n-le-LONGEST c = search opened-held

pub returns : goal.returns
returns c = search opened-long
