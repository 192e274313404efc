use Rattle.std.proofs.Common.{rules}
use Rattle.message.proofs.Whole.{unsound, card-long, nothing-asked, arm-heard, read-record, read-long, write-record, write-long}
use borrow.Author.Rules.{rules}
use Rattle.message.proofs.message.Goals as goal

pub returns-then-not-is_sound : goal.returns-then-not-is_sound
returns-then-not-is_sound c = search (rules, unsound)

pub decode-requires : goal.decode-requires
decode-requires c = search (rules, card-long)

pub read_config-requires : goal.read_config-requires
read_config-requires c = (search (rules, read-record), search (rules, read-long))

pub write_config-requires : goal.write_config-requires
write_config-requires c = (search (rules, write-record), search (rules, write-long))

pub returns-in_default : goal.returns-in_default
returns-in_default c = search (rules, nothing-asked)

pub returns-in-Read : goal.returns-in-Read
returns-in-Read c = search (rules, arm-heard)

pub returns-in-Write : goal.returns-in-Write
returns-in-Write c = search (rules, arm-heard)
