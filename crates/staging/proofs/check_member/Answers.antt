-- Each return is a step of `member_refusal`.
use borrow.Author.Rules.{rules}
use Rattle.theory.proofs.Ladder.{ladder, no-not, yes-not}
use Rattle.staging.specs.Staging.{member_refusal}
use Rattle.staging.proofs.Refusals.{told-long, told-whole}
use Rattle.staging.proofs.check_member.Goals as goal

pub returns-then-not-is_sound : goal.returns-then-not-is_sound
unfolding member_refusal
returns-then-not-is_sound c = search ladder

pub is_member-requires : goal.is_member-requires
is_member-requires c = search (rules, told-long)

pub returns-then-not-is_member : goal.returns-then-not-is_member
unfolding member_refusal
returns-then-not-is_member c = search ladder

pub is_marked-requires : goal.is_marked-requires
is_marked-requires c = search (rules, told-whole)

pub returns-then-is_marked : goal.returns-then-is_marked
unfolding member_refusal
returns-then-is_marked c = search (ladder, no-not, yes-not) depth 9

pub returns : goal.returns
unfolding member_refusal
returns c = search (ladder, no-not, yes-not) depth 9
