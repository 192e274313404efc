use borrow.Author.Rules.{rules}
use Rattle.theory.proofs.Lent.{tail-is}
use Rattle.host.proofs.result.Goals as goal

pub returns : goal.returns
returns c = search (rules, tail-is)
