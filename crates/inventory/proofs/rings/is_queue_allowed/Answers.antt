use Rattle.inventory.proofs.Queue.{queue-read}
use Rattle.inventory.proofs.rings.is_queue_allowed.Goals as goal

pub returns : goal.returns
returns c = search queue-read
