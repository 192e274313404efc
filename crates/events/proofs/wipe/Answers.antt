use Rattle.events.specs.Events.{wipe}
use Rattle.events.proofs.EventLaws.{on-member}
use Rattle.events.proofs.wipe.Goals as goal

pub returns-in_err-member_answer : goal.returns-in_err-member_answer
unfolding wipe
returns-in_err-member_answer c = search on-member

pub returns-then-not-is_marked : goal.returns-then-not-is_marked
unfolding wipe
returns-then-not-is_marked c = search on-member

pub returns : goal.returns
unfolding wipe
returns c = search on-member
