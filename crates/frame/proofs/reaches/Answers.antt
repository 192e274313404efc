use borrow.Author.Rules.{rules}
use Rattle.theory.proofs.Ladder.{ladder, not-told}
use Rattle.frame.specs.Ask.{reaches}
use Rattle.frame.proofs.reaches.Goals as goal

pub names_member-requires : goal.names_member-requires
unfolding reaches
names_member-requires c = search rules

pub returns-then-not-names_member : goal.returns-then-not-names_member
unfolding reaches
returns-then-not-names_member c = search (ladder, not-told)

pub returns-then-m-lt1 : goal.returns-then-m-lt1
unfolding reaches
returns-then-m-lt1 c = search (ladder, not-told)

pub returns : goal.returns
unfolding reaches
returns c = search (ladder, not-told)
