pub mod Answers
pub mod Opcodes
