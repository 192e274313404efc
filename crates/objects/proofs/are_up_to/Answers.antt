use mathlib.Core.Path.{◌∙◌}
use Rattle.std.proofs.Common.{◌&&◌, true, leb, rules, tests}
use Rattle.std.proofs.lemmas.Iterator.{YieldsList-from_slice}
use Rattle.std.proofs.lemmas.Iterator.Consumers.{fold_from_yields_List}
use Rattle.objects.proofs.Counts.{up-to-folded}
use Rattle.objects.proofs.are_up_to.Goals as goal

pub returns : goal.returns
returns c =
    let n = c.args.n in
    fold_from_yields_List _ (λ a b. a && leb b n) true c.fold.result c.fold.ensures.ran (YieldsList-from_slice c.args.bytes.now cc)
    (λ a x b q k. search (rules, tests))
    ∙ up-to-folded n c.args.bytes.now
