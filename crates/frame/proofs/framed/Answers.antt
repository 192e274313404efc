use borrow.Author.Rules.{rules}
use Rattle.theory.proofs.Ladder.{ladder}
use Rattle.frame.specs.Ask.{framed_of}
use Rattle.frame.proofs.Steps.{usable-supported}
use Rattle.frame.proofs.framed.Goals as goal

pub returns-then-group-ne1 : goal.returns-then-group-ne1
unfolding framed_of
returns-then-group-ne1 c = search ladder

pub usable-requires : goal.usable-requires
unfolding framed_of
usable-requires c = search rules

pub returns-then-not-usable : goal.returns-then-not-usable
unfolding framed_of
returns-then-not-usable c = search ladder

pub reaches-requires : goal.reaches-requires
unfolding framed_of
reaches-requires c = search rules

pub returns-then-not-reaches : goal.returns-then-not-reaches
unfolding framed_of
returns-then-not-reaches c = search ladder

pub attended-requires : goal.attended-requires
unfolding framed_of
attended-requires c = search rules

pub returns-then-not-attended : goal.returns-then-not-attended
unfolding framed_of
returns-then-not-attended c = search ladder

pub fields-requires : goal.fields-requires
unfolding framed_of
fields-requires c = search usable-supported

pub returns : goal.returns
unfolding framed_of
returns c = search ladder depth 9
