use Rattle.theory.proofs.Lent.{lent-tail}
use Rattle.reply.proofs.Result.{list_written}
use Rattle.reply.proofs.write_metadata_list.Goals as goal

pub returns : goal.returns
returns c = search (list_written, lent-tail)
