use Rattle.theory.proofs.Ladder.{ladder}
use Rattle.protocol.specs.Opcodes.{supported_only}
use Rattle.protocol.proofs.supported_only.Goals as goal

pub returns-then-mask-ne0 : goal.returns-then-mask-ne0
unfolding supported_only
returns-then-mask-ne0 c = search ladder

pub returns : goal.returns
unfolding supported_only
returns c = search ladder
