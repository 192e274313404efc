-- `search steps` closes each return of a command that changes: what the lookup found, then a ladder of refusals, then
-- what is done. Assumes nothing.
use Rattle.std.specs.Prelude.{Result, Ok}
use mathlib.Core.Path.{◌≡◌, ap}
use Rattle.theory.proofs.Ladder.{ladder}
use Rattle.protocol.proofs.Operations.{kind-set, kind-not-set, mode-stops, mode-runs}
use Rattle.protocol.specs.declared.Refusal.{Refusal}
use Rattle.member.specs.declared.Member.{Member}
use Rattle.member.proofs.Objects.{on-live, on-nothing}

-- what a function made is what is asked for
pub changed-to : (n p : Member) → n ≡ p → ◌≡◌ {A = Result Member Refusal} (Ok n) (Ok p)
changed-to n p e = ap Ok e

pub ruleset steps = (ladder, on-live, on-nothing, kind-set, kind-not-set, mode-stops, mode-runs, changed-to)
