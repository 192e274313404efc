use Rattle.admin.proofs.Arms.{query-told, read-member, change-member}
use Rattle.admin.proofs.obey.Goals as goal

pub read_member-requires : goal.read_member-requires
read_member-requires c = (c.requires.0, read-member _ _ _ _ c.requires.1 _ c.in-Read.is, c.requires.2)

pub change_member-requires : goal.change_member-requires
change_member-requires c = (c.requires.0, change-member _ _ _ _ c.requires.1 _ c.in-Change.is, c.requires.2)

pub returns-in-QueryList : goal.returns-in-QueryList
returns-in-QueryList c = rw c.in-QueryList.is (query-told _ _ _ _ _ c.write_mask.ensures)

pub returns-in-UseList : goal.returns-in-UseList
returns-in-UseList c = rw c.in-UseList.is c.use_list.ensures

pub returns-in-Read : goal.returns-in-Read
returns-in-Read c = rw c.in-Read.is c.read_member.ensures

pub returns-in-Change : goal.returns-in-Change
returns-in-Change c = rw c.in-Change.is c.change_member.ensures
