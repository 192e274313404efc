use Rattle.stream.proofs.Feeding.{starts}
use Rattle.stream.proofs.start.Goals as goal

pub returns : goal.returns
returns c = search starts
