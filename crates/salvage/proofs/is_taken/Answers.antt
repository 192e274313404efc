use Rattle.salvage.proofs.Refusals.{taken-tests}
use Rattle.salvage.proofs.is_taken.Goals as goal

pub returns : goal.returns
returns c = search taken-tests
