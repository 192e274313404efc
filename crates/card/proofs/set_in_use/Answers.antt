-- A number is written.
use borrow.Author.Rules.{rules}
use Rattle.card.specs.Layout.{with_in_use}
use Rattle.card.proofs.set_in_use.Goals as goal

pub write-requires : goal.write-requires
unfolding with_in_use
write-requires c = search rules

pub shape_of-card : goal.shape_of-card
unfolding with_in_use
shape_of-card c = search rules

pub returns : goal.returns
unfolding with_in_use
returns c = search rules
