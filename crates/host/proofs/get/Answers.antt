use borrow.Author.Rules.{rules}
use Rattle.protocol.specs.Opcodes.{opcode_row, opcode_rows}
use Rattle.host.specs.Request.{sent_of}
use Rattle.host.proofs.get.Goals as goal

pub with_list-requires : goal.with_list-requires
unfolding opcode_row opcode_rows sent_of
with_list-requires c = search rules

pub shape_of-out : goal.shape_of-out
unfolding opcode_row opcode_rows sent_of
shape_of-out c = search rules

pub returns : goal.returns
unfolding opcode_row opcode_rows sent_of
returns c = search rules
