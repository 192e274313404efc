use borrow.Author.Rules.{rules}
use Rattle.member.specs.Record.{member_of}
use Rattle.member.proofs.values_of.Goals as goal

pub returns : goal.returns
unfolding member_of
returns c = search rules
