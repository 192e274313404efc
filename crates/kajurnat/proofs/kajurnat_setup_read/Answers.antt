use borrow.Author.Rules.{rules}
use Rattle.kajurnat.proofs.SetupTold.{as_read}
use Rattle.kajurnat.proofs.kajurnat_setup_read.Goals as goal

pub returns : goal.returns
returns c = search (rules, as_read)
