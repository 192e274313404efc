use Rattle.theory.proofs.Ladder.{ladder}
use Rattle.frame.proofs.Steps.{mask-long, mask-read}
use Rattle.frame.proofs.fields.use_in.Goals as goal

pub returns-then-not-is_zero : goal.returns-then-not-is_zero
returns-then-not-is_zero c = search mask-long

pub returns-then-not-supported_only : goal.returns-then-not-supported_only
returns-then-not-supported_only c = search (mask-read, ladder)

pub returns : goal.returns
returns c = search (mask-read, ladder)
