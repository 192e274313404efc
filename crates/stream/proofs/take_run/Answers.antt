use borrow.Author.Rules.{rules}
use Rattle.stream.proofs.Takes.{skip-took, stop-took}
use Rattle.stream.proofs.take_run.Goals as goal

pub take_capture-requires : goal.take_capture-requires
take_capture-requires c = (search rules, search rules, search rules)

pub take_length-requires : goal.take_length-requires
take_length-requires c = (search rules, search rules, search rules)

pub skip_bytes-requires : goal.skip_bytes-requires
skip_bytes-requires c = (search rules, search rules)

pub returns-in-Skipped : goal.returns-in-Skipped
returns-in-Skipped c = search (rules, skip-took)

pub returns-in-Stopped : goal.returns-in-Stopped
returns-in-Stopped c = search (rules, stop-took)
