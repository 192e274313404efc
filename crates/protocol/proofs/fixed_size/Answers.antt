use borrow.Author.Rules.{rules}
use Rattle.protocol.specs.Opcodes.{fixed_size, opcode_row, opcode_rows}
use Rattle.protocol.proofs.Rows.{fixed-none}
use Rattle.protocol.proofs.fixed_size.Goals as goal

pub returns-in-1 : goal.returns-in-1
unfolding fixed_size opcode_row opcode_rows
returns-in-1 c = rw c.in-1.is

pub returns-in-10 : goal.returns-in-10
unfolding fixed_size opcode_row opcode_rows
returns-in-10 c = rw c.in-10.is

pub returns-in-11 : goal.returns-in-11
unfolding fixed_size opcode_row opcode_rows
returns-in-11 c = rw c.in-11.is

pub returns-in-12 : goal.returns-in-12
unfolding fixed_size opcode_row opcode_rows
returns-in-12 c = rw c.in-12.is

pub returns-in-13 : goal.returns-in-13
unfolding fixed_size opcode_row opcode_rows
returns-in-13 c = rw c.in-13.is

pub returns-in-14 : goal.returns-in-14
unfolding fixed_size opcode_row opcode_rows
returns-in-14 c = rw c.in-14.is

pub returns-in-15 : goal.returns-in-15
unfolding fixed_size opcode_row opcode_rows
returns-in-15 c = rw c.in-15.is

pub returns-in-16 : goal.returns-in-16
unfolding fixed_size opcode_row opcode_rows
returns-in-16 c = rw c.in-16.is

pub returns-in-17 : goal.returns-in-17
unfolding fixed_size opcode_row opcode_rows
returns-in-17 c = rw c.in-17.is

pub returns-in_default : goal.returns-in_default
unfolding fixed_size opcode_row opcode_rows
returns-in_default c = search (rules, fixed-none)
