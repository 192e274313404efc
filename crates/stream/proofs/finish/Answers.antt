use borrow.Author.Rules.{rules}
use Rattle.stream.proofs.Feeding.{counts-fit, finish-put, finish-length}
use Rattle.stream.proofs.finish.Goals as goal

pub write-requires : goal.write-requires
write-requires c = (search counts-fit, search rules)

pub returns : goal.returns
returns c = (search finish-put, search finish-length)
