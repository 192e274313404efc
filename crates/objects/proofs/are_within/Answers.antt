use mathlib.Core.Path.{◌∙◌}
use Rattle.std.proofs.Common.{◌&&◌, ℕ, Bool, true, leb, rules, tests}
use Rattle.std.proofs.lemmas.Iterator.{YieldsList-from_slice, YieldsList-from_zip}
use Rattle.std.proofs.lemmas.Iterator.Consumers.{fold_from_yields_List}
use Rattle.objects.proofs.Counts.{within-folded}
use Rattle.objects.proofs.are_within.Goals as goal

pub returns : goal.returns
returns c =
    let most = c.args.most.now in
    let bytes = c.args.bytes.now in
    fold_from_yields_List _ (λ (a : Bool) (p : ℕ × ℕ). a && leb p.0 p.1) true c.fold.result c.fold.ensures.ran
    (YieldsList-from_zip (YieldsList-from_slice bytes cc) (YieldsList-from_slice most cc))
    (λ a x b q k. search (rules, tests))
    ∙ within-folded most bytes cc
