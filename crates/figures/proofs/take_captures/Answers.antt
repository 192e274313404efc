use Rattle.figures.proofs.Taking.{captures-taken}
use Rattle.figures.proofs.take_captures.Goals as goal

pub returns : goal.returns
returns c = search captures-taken
