-- The list is read, and tested.
use Rattle.card.proofs.sound.is_use_supported.Goals as goal

pub returns : goal.returns
returns c = cc
