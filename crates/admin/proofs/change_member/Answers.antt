use borrow.Author.Rules.{rules}
use Rattle.admin.proofs.OfSound.{header-there, record-there}
use Rattle.admin.proofs.Arms.{change-refused, change-told}
use Rattle.admin.proofs.change_member.Goals as goal

pub setup_of-s-requires : goal.setup_of-s-requires
setup_of-s-requires c = search (rules, header-there)

pub load_member-before-requires : goal.load_member-before-requires
load_member-before-requires c = search (rules, record-there)

pub save_member-requires : goal.save_member-requires
save_member-requires c = search (rules, record-there)

pub returns-in-Ok : goal.returns-in-Ok
returns-in-Ok c = change-told _ _ _ _ _ _ _ _ _ c.setup_of-s.ensures c.load_member-before.ensures _ _
    c.from.ensures c.change.ensures c.requires.2 _ c.in-Ok.is c.write_answer.ensures _ c.save_member.ensures

pub returns-in-Err : goal.returns-in-Err
returns-in-Err c = change-refused _ _ _ _ _ _ _ _ _ c.setup_of-s.ensures c.load_member-before.ensures _ _
    c.from.ensures c.change.ensures c.requires.2 _ c.in-Err.is c.write_answer-in-Err.ensures
