use Rattle.std.proofs.Common.{rules}
use Rattle.card.proofs.RecordBytesLaws.{head-there}
use Rattle.message.proofs.Decoded.{no-request, header-there, no-member, is-marked, reads-config, writes-config, other-kind}
use borrow.Author.Rules.{rules}
use Rattle.message.proofs.decode.Goals as goal

pub returns-then-not-is_request : goal.returns-then-not-is_request
returns-then-not-is_request c = search (rules, no-request)

pub member_of-m-requires : goal.member_of-m-requires
member_of-m-requires c = search (rules, header-there)

pub is_member-requires : goal.is_member-requires
is_member-requires c = search (rules, head-there)

pub returns-then-not-is_member : goal.returns-then-not-is_member
returns-then-not-is_member c = search (rules, no-member)

pub returns-then-is_marked : goal.returns-then-is_marked
returns-then-is_marked c = search (rules, is-marked)

pub bounds-message-1 : goal.bounds-message-1
bounds-message-1 c = search (rules, header-there)

pub returns-in-5 : goal.returns-in-5
returns-in-5 c = search (rules, reads-config)

pub returns-in-6 : goal.returns-in-6
returns-in-6 c = search (rules, writes-config)

pub returns-in_default : goal.returns-in_default
returns-in_default c = search (rules, other-kind)
