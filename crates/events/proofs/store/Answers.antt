use Rattle.events.specs.Events.{store}
use Rattle.events.proofs.EventLaws.{on-member}
use Rattle.events.proofs.store.Goals as goal

pub returns-in_err-member_answer : goal.returns-in_err-member_answer
unfolding store
returns-in_err-member_answer c = search on-member

pub returns : goal.returns
unfolding store
returns c = search on-member
