use borrow.Author.Rules.{rules}
use Rattle.staging.proofs.Returns.{held-written}
use Rattle.staging.proofs.hold.Goals as goal

pub write_holding-requires : goal.write_holding-requires
write_holding-requires c = (search rules, search rules)

pub returns : goal.returns
returns c = search (rules, held-written)
