use Rattle.member.specs.Record.{member_of}
use Rattle.member.proofs.load.Goals as goal

pub returns : goal.returns
unfolding member_of
returns c = cc
