use borrow.Author.Rules.{rules}
use Rattle.theory.proofs.Ladder.{ladder}
use Rattle.frame.specs.Fields.{object_valid}
use Rattle.frame.proofs.fields.object_valid.Goals as goal

pub read_u16-requires : goal.read_u16-requires
unfolding object_valid
read_u16-requires c = search rules

pub returns-then-read_u16-ne0 : goal.returns-then-read_u16-ne0
unfolding object_valid
returns-then-read_u16-ne0 c = search ladder

pub read_u32-requires : goal.read_u32-requires
unfolding object_valid
read_u32-requires c = search rules

pub returns : goal.returns
unfolding object_valid
returns c = search ladder
