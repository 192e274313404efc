use mathlib.Core.Path.{refl}
use borrow.Author.Rules.{rules}
use Rattle.member.specs.Record.{member_of}
use Rattle.member.proofs.queues_of.Goals as goal

pub bounds-bytes-2 : goal.bounds-bytes-2
unfolding member_of
bounds-bytes-2 c = search rules

pub returns : goal.returns
unfolding member_of
returns c = refl
