use borrow.Author.Rules.{rules}
use Rattle.loads.specs.Loads.{configuration_told}
use Rattle.loads.proofs.CallLaws.{call-refused, configuration-unfit, configuration-told, configuration-room}
use Rattle.loads.proofs.configuration.Goals as goal

pub returns-in_err-member_answer : goal.returns-in_err-member_answer
unfolding configuration_told
returns-in_err-member_answer c = search (rules, call-refused)

pub returns-then-bytes-ne-CONFIGURATION_SIZE : goal.returns-then-bytes-ne-CONFIGURATION_SIZE
returns-then-bytes-ne-CONFIGURATION_SIZE c = search (rules, configuration-unfit)

pub copy-requires : goal.copy-requires
copy-requires c = search (rules, configuration-room)

pub returns : goal.returns
returns c = search (rules, configuration-told)
