use Rattle.theory.proofs.Ladder.{ladder, not-of}
use Rattle.rules.specs.Rules.{asked_in}
use Rattle.rules.proofs.check_asked.Goals as goal

pub returns-then-not-is_whole : goal.returns-then-not-is_whole
unfolding asked_in
returns-then-not-is_whole c = search ladder

pub returns-then-not-every_known : goal.returns-then-not-every_known
unfolding asked_in
returns-then-not-every_known c = search ladder

pub returns : goal.returns
unfolding asked_in
returns c = search (ladder, not-of)
