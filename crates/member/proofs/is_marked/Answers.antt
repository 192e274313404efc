use mathlib.Core.Path.{refl}
use borrow.Author.Rules.{rules}
use Rattle.member.specs.Record.{member_of}
use Rattle.member.proofs.is_marked.Goals as goal

pub bounds-bytes-1 : goal.bounds-bytes-1
unfolding member_of
bounds-bytes-1 c = search rules

pub returns : goal.returns
unfolding member_of
returns c = refl
