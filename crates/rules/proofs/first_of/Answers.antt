use Rattle.std.proofs.Common.{sym}
use Rattle.rules.proofs.PartCauses.{first-ok, ok-first, min-first}
use Rattle.rules.proofs.first_of.Goals as goal

pub returns-in_default : goal.returns-in_default
returns-in_default c = rw c.in_default.is (sym (ok-first c.args.b))

pub returns-in_default-b : goal.returns-in_default-b
returns-in_default-b c = rw (c.in-Err.is, c.in_default-b.is) (sym (first-ok _))

pub returns : goal.returns
returns c = rw (c.in-Err.is, c.in-Err-b.is, c.min.ensures) (min-first c.in-Err.x c.in-Err-b.y)
