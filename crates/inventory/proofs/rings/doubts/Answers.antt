use Rattle.inventory.proofs.Plain.{plain-read}
use Rattle.inventory.proofs.rings.doubts.Goals as goal

pub returns : goal.returns
returns c = search plain-read
