use Rattle.theory.proofs.Tests.{bool-byte}
use Rattle.inventory.proofs.Row.first_word.Goals as goal

pub returns : goal.returns
returns c = rw bool-byte
