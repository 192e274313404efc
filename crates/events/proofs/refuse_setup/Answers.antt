use borrow.Author.Rules.{rules}
use Rattle.events.specs.Events.{refused_setup}
use Rattle.events.proofs.refuse_setup.Goals as goal

pub returns : goal.returns
unfolding refused_setup
returns c = search rules
