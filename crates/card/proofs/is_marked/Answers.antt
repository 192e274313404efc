use borrow.Author.Rules.{rules}
use Rattle.card.proofs.RecordBytesLaws.{head-there}
use Rattle.card.proofs.MarkLaws.{no-mark, mark-record, mark-read}
use Rattle.card.proofs.is_marked.Goals as goal

pub is_member-requires : goal.is_member-requires
is_member-requires c = search (rules, head-there)

pub returns-then-not-is_member : goal.returns-then-not-is_member
returns-then-not-is_member c = search (rules, no-mark)

pub member_bytes-requires : goal.member_bytes-requires
member_bytes-requires c = search (rules, mark-record)

pub returns : goal.returns
returns c = search (rules, mark-read)
