use Rattle.figures.proofs.Taking.{captures-finish}
use Rattle.figures.proofs.finish.Goals as goal

pub returns-in-Captures : goal.returns-in-Captures
returns-in-Captures c = captures-finish _ _ _ _ _ _ _ c.in-Captures.is c.requires.0 c.finish.ensures.0 c.finish.ensures.1
