use Rattle.theory.proofs.Ladder.{ladder}
use Rattle.protocol.specs.Opcodes.{names_member}
use Rattle.protocol.proofs.names_member.Goals as goal

pub returns-then-op-lt10 : goal.returns-then-op-lt10
unfolding names_member
returns-then-op-lt10 c = search ladder

pub returns : goal.returns
unfolding names_member
returns c = search ladder
