use Rattle.changes.proofs.Steps.{steps}
use Rattle.changes.specs.Changes.{set_parts_of}
use Rattle.changes.proofs.set_parts.Goals as goal

pub returns-in_default : goal.returns-in_default
unfolding set_parts_of
returns-in_default c = search steps

pub returns-in_default-kind : goal.returns-in_default-kind
unfolding set_parts_of
returns-in_default-kind c = search steps

pub returns-in_default-mode : goal.returns-in_default-mode
unfolding set_parts_of
returns-in_default-mode c = search steps

pub returns-then-not-accepts : goal.returns-then-not-accepts
unfolding set_parts_of
returns-then-not-accepts c = search steps

pub returns : goal.returns
unfolding set_parts_of
returns c = search steps
