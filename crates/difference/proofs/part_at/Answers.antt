use mathlib.Core.Path.{ap, ◌∙◌}
use borrow.Author.Rules.{rules}
use Rattle.std.specs.Prelude.{Ok}
use Rattle.difference.proofs.Handed.{later-inside, full-inside, later-handed, full-handed, none-handed}
use Rattle.difference.proofs.part_at.Goals as goal

pub cut-requires : goal.cut-requires
cut-requires c = later-inside _ _ _ c.requires _ _ (c.in-Ok.is ∙ ap (λ x. Ok x) c.in-Later.is)

pub cut-requires-in-Full : goal.cut-requires-in-Full
cut-requires-in-Full c = full-inside _ _ _ c.requires _ _ (c.in-Ok.is ∙ ap (λ x. Ok x) c.in-Full.is)

pub returns-in-Later : goal.returns-in-Later
returns-in-Later c = later-handed _ _ _ _ _ _ (c.in-Ok.is ∙ ap (λ x. Ok x) c.in-Later.is) c.cut.ensures

pub returns-in-Full : goal.returns-in-Full
returns-in-Full c = full-handed _ _ _ _ _ _ (c.in-Ok.is ∙ ap (λ x. Ok x) c.in-Full.is) c.cut-in-Full.ensures

pub returns-in_default : goal.returns-in_default
returns-in_default c = none-handed _ _ _ _ _ c.in_default.is (search rules)
