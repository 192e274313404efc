use borrow.Author.Rules.{rules}
use Rattle.kajurnat.proofs.Numbered.{as-number-told}
use Rattle.kajurnat.proofs.kajurnat_member.Goals as goal

pub returns : goal.returns
returns c = search (rules, as-number-told)
