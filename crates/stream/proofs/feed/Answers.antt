use borrow.Author.Rules.{rules}
use borrow.Author.Tests.{tests}
use Rattle.stream.proofs.Feeding.{along-start, run_fits, along-on, along-end}
use Rattle.stream.proofs.feed.Goals as goal

pub loop-rest-init : goal.loop-rest-init
loop-rest-init c = search along-start

pub take_run-s-requires : goal.take_run-s-requires
take_run-s-requires c = (search rules, search (rules, run_fits))

pub loop-rest-preserved : goal.loop-rest-preserved
loop-rest-preserved c = search (rules, along-on)

pub returns : goal.returns
returns c = along-end _ _ _ _ _ _ _ _ c.loop-rest.invariant (search (rules, tests))
