use borrow.Author.Rules.{rules}
use Rattle.theory.proofs.Ladder.{ladder}
use Rattle.frame.specs.Fields.{flags_valid}
use Rattle.frame.proofs.fields.flags_valid.Goals as goal

pub read_u64-requires : goal.read_u64-requires
unfolding flags_valid
read_u64-requires c = search rules

pub returns : goal.returns
unfolding flags_valid
returns c = search ladder
