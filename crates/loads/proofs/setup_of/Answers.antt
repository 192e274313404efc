use borrow.Author.Rules.{rules}
use Rattle.events.proofs.EventLaws.{told}
use Rattle.loads.proofs.SetupLaws.{setup-refused, members-few, counts-cover, setup-told}
use Rattle.loads.proofs.setup_of.Goals as goal

pub returns-then-not-is_sound : goal.returns-then-not-is_sound
returns-then-not-is_sound c = search (rules, setup-refused)

pub setup_of-s-requires : goal.setup_of-s-requires
setup_of-s-requires c = search told

pub counts_of-counts-requires : goal.counts_of-counts-requires
counts_of-counts-requires c = (search told, search (rules, members-few))

pub slice_bounds-write-end : goal.slice_bounds-write-end
slice_bounds-write-end c = search (rules, counts-cover)

pub returns : goal.returns
returns c = search (rules, setup-told)
