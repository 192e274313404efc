use borrow.Author.Rules.{rules}
use Rattle.theory.proofs.Ladder.{ladder}
use Rattle.events.specs.Events.{member_answer}
use Rattle.events.proofs.EventLaws.{told-long, told-size, told-record}
use Rattle.events.proofs.member_answer.Goals as goal

pub returns-then-not-is_sound : goal.returns-then-not-is_sound
unfolding member_answer
returns-then-not-is_sound c = search ladder

pub is_member-requires : goal.is_member-requires
unfolding member_answer
is_member-requires c = search (rules, told-long)

pub returns-then-not-is_member : goal.returns-then-not-is_member
unfolding member_answer
returns-then-not-is_member c = search ladder

pub returns-clause-answer : goal.returns-clause-answer
unfolding member_answer
returns-clause-answer c = search ladder

pub returns-clause-whole : goal.returns-clause-whole
returns-clause-whole c = search (rules, told-size)

pub returns-clause-has : goal.returns-clause-has
returns-clause-has c = search (rules, told-record)
