use borrow.Author.Rules.{rules}
use Rattle.setups.specs.Member.{member_setup}
use Rattle.setups.proofs.Member.{read-few}
use Rattle.setups.proofs.member_setup.Goals as goal

pub member_of-requires : goal.member_of-requires
member_of-requires c = search (rules, read-few)

pub returns-in-Ok : goal.returns-in-Ok
unfolding member_setup
returns-in-Ok c = search rules

pub returns-in-Err : goal.returns-in-Err
unfolding member_setup
returns-in-Err c = search rules
