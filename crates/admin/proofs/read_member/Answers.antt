use borrow.Author.Rules.{rules}
use Rattle.admin.proofs.OfSound.{record-there, bytes-sized, queues-few, values-long}
use Rattle.admin.proofs.Arms.{read_told}
use Rattle.admin.proofs.read_member.Goals as goal

pub member_bytes-bytes-requires : goal.member_bytes-bytes-requires
member_bytes-bytes-requires c = search (rules, record-there)

pub write_reading-requires : goal.write_reading-requires
write_reading-requires c = let pre = c.requires in (
  queues-few _ pre.0 _ pre.1 _ c.member_bytes-bytes.ensures _ c.queues_of-queues.ensures,
  values-long _ pre.0 _ pre.1 _ c.member_bytes-bytes.ensures _ c.values_of-values.ensures,
  pre.2,
)

pub returns : goal.returns
returns c = search (rules, read_told)
