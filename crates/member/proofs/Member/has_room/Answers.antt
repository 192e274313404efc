use borrow.Author.Rules.{rules}
use Rattle.objects.proofs.Objects.{bytes_low}
use Rattle.member.proofs.Member.has_room.Goals as goal

pub is_within_limits-requires : goal.is_within_limits-requires
is_within_limits-requires c = search (rules, bytes_low)

pub returns : goal.returns
returns c = cc
