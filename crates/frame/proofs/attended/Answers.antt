use borrow.Author.Rules.{rules}
use Rattle.theory.proofs.Ladder.{ladder, not-told, not-of}
use Rattle.frame.specs.Ask.{attended}
use Rattle.frame.proofs.attended.Goals as goal

pub returns-then-not-marked : goal.returns-then-not-marked
unfolding attended
returns-then-not-marked c = search (ladder, not-told)

pub names_member-requires : goal.names_member-requires
unfolding attended
names_member-requires c = search rules

pub returns : goal.returns
unfolding attended
returns c = search (ladder, not-told, not-of)
