use Rattle.theory.proofs.Ladder.{ladder}
use Rattle.protocol.proofs.Rows.{supported-is}
use Rattle.protocol.proofs.supported.Goals as goal

pub returns-then-op-lt2 : goal.returns-then-op-lt2
returns-then-op-lt2 c = rw (supported-is) (search ladder)

pub returns : goal.returns
returns c = rw (supported-is) (search ladder)
