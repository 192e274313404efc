use Rattle.std.proofs.Common.{rules, ◌∙◌}
use Rattle.std.proofs.lemmas.Iterator.{YieldsList-from_slice}
use Rattle.std.proofs.lemmas.Iterator.Search.{all_from_yields_List}
use Rattle.theory.specs.Logic.{within}
use Rattle.theory.proofs.Tests.{inside, below, above}
use Rattle.setups.proofs.Ranges.{list-all}
use Rattle.setups.proofs.are_within.Goals as goal

pub returns : goal.returns
returns c =
    let numbers = c.args.numbers.now in
    all_from_yields_List (within c.args.low c.args.high) _ _ _ c.all.ensures.ran (YieldsList-from_slice numbers c.iter.ensures.rest) (λ x b q k. (search rules, search (rules, inside, below, above)))
    ∙ list-all (within c.args.low c.args.high) numbers
