-- Each return is a step of `member_of`.
use borrow.Author.Rules.{rules}
use Rattle.theory.proofs.Ladder.{ladder}
use Rattle.setups.specs.Member.{member_of}
use Rattle.setups.proofs.member_of.Goals as goal

pub returns-then-member-lt1 : goal.returns-then-member-lt1
unfolding member_of
returns-then-member-lt1 c = search ladder

pub returns-then-s-member : goal.returns-then-s-member
unfolding member_of
returns-then-s-member c = search ladder

pub returns : goal.returns
unfolding member_of
returns c = search (ladder, rules)
