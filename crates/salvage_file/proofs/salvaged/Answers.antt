-- What the call writes is part of the list that it was lent.
use Rattle.salvage_file.proofs.Written.{written-counts}
use Rattle.salvage_file.proofs.salvaged.Goals as goal

pub returns : goal.returns
returns c = written-counts _ _ _ _ c.salvage.ensures
