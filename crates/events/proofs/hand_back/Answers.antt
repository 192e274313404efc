use Rattle.events.specs.Events.{hand_back}
use Rattle.events.proofs.EventLaws.{on-member}
use Rattle.events.proofs.hand_back.Goals as goal

pub returns-in_err-member_answer : goal.returns-in_err-member_answer
unfolding hand_back
returns-in_err-member_answer c = search on-member

pub returns-then-is_marked : goal.returns-then-is_marked
unfolding hand_back
returns-then-is_marked c = search on-member

pub returns : goal.returns
unfolding hand_back
returns c = search on-member
