use borrow.Author.Rules.{rules}
use Rattle.member.proofs.Objects.{values-in}
use Rattle.member.proofs.Member.store.Goals as goal

pub returns : goal.returns
returns c = search (rules, values-in)
