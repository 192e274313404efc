use borrow.Author.Rules.{rules}
use Rattle.frame.specs.Fields.{fields_of}
use Rattle.theory.specs.Logic.{when◌then◌else◌}
use Rattle.protocol.specs.Opcodes.{opcode_rows}
use Rattle.protocol.proofs.Rows.{data-long}
use Rattle.frame.proofs.Steps.{at-opcode, at-last-opcode, last-long}
use Rattle.frame.proofs.fields.whole_fields.Goals as goal

pub use_in-requires : goal.use_in-requires
unfolding fields_of when◌then◌else◌ opcode_rows
use_in-requires c = search (rules, data-long)

pub create_in-requires : goal.create_in-requires
unfolding fields_of when◌then◌else◌ opcode_rows
create_in-requires c = search (rules, data-long)

pub modify_in-requires : goal.modify_in-requires
unfolding fields_of when◌then◌else◌ opcode_rows
modify_in-requires c = search (rules, data-long)

pub query_in-requires : goal.query_in-requires
unfolding fields_of when◌then◌else◌ opcode_rows
query_in-requires c = search (rules, data-long)

pub destroy_in-requires : goal.destroy_in-requires
unfolding fields_of when◌then◌else◌ opcode_rows
destroy_in-requires c = search (rules, data-long)

pub metadata_in-requires : goal.metadata_in-requires
unfolding fields_of when◌then◌else◌ opcode_rows
metadata_in-requires c = search (rules, data-long)

pub get_in-requires : goal.get_in-requires
unfolding fields_of when◌then◌else◌ opcode_rows
get_in-requires c = search (rules, data-long)

pub set_in-requires : goal.set_in-requires
unfolding fields_of when◌then◌else◌ opcode_rows
set_in-requires c = search (rules, data-long)

pub mode_in-requires : goal.mode_in-requires
unfolding fields_of when◌then◌else◌ opcode_rows
mode_in-requires c = search (rules, last-long)

pub returns-in-0 : goal.returns-in-0
unfolding fields_of when◌then◌else◌ opcode_rows
returns-in-0 c = search at-opcode

pub returns-in-1 : goal.returns-in-1
unfolding fields_of when◌then◌else◌ opcode_rows
returns-in-1 c = search at-opcode

pub returns-in-10 : goal.returns-in-10
unfolding fields_of when◌then◌else◌ opcode_rows
returns-in-10 c = search at-opcode

pub returns-in-11 : goal.returns-in-11
unfolding fields_of when◌then◌else◌ opcode_rows
returns-in-11 c = search at-opcode

pub returns-in-12 : goal.returns-in-12
unfolding fields_of when◌then◌else◌ opcode_rows
returns-in-12 c = search at-opcode

pub returns-in-13 : goal.returns-in-13
unfolding fields_of when◌then◌else◌ opcode_rows
returns-in-13 c = search at-opcode

pub returns-in-14 : goal.returns-in-14
unfolding fields_of when◌then◌else◌ opcode_rows
returns-in-14 c = search at-opcode

pub returns-in-15 : goal.returns-in-15
unfolding fields_of when◌then◌else◌ opcode_rows
returns-in-15 c = search at-opcode

pub returns-in-16 : goal.returns-in-16
unfolding fields_of when◌then◌else◌ opcode_rows
returns-in-16 c = search at-opcode

pub returns-in_default : goal.returns-in_default
unfolding fields_of when◌then◌else◌ opcode_rows
returns-in_default c = search at-last-opcode
