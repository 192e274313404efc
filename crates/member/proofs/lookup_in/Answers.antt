use borrow.Author.Rules.{rules}
use Rattle.member.proofs.Record.{record-lookup, record-lookup-out}
use Rattle.member.proofs.lookup_in.Goals as goal

pub returns-then-id-ge-IDS : goal.returns-then-id-ge-IDS
returns-then-id-ge-IDS c = search (rules, record-lookup-out)

pub returns : goal.returns
returns c = search (rules, record-lookup)
