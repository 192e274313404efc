-- A number is read.
use borrow.Author.Rules.{rules}
use Rattle.card.specs.Layout.{in_use_of}
use Rattle.card.proofs.in_use.Goals as goal

pub read_u64-requires : goal.read_u64-requires
unfolding in_use_of
read_u64-requires c = search rules

pub returns : goal.returns
unfolding in_use_of
returns c = search rules
