use mathlib.Core.Path.{◌∙◌}
use Rattle.wire.proofs.Loops.{worth-at}
use Rattle.wire.proofs.read_u32.Goals as goal

pub returns : goal.returns
returns c = c.from_le_bytes.ensures ∙ worth-at c.args.s.now _ c.args.at 3 c.part.ensures
