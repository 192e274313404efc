use borrow.Author.Rules.{rules}
use Rattle.theory.proofs.Ladder.{ladder}
use Rattle.frame.specs.Ask.{usable}
use Rattle.frame.proofs.usable.Goals as goal

pub supported-requires : goal.supported-requires
unfolding usable
supported-requires c = search rules

pub returns-then-not-supported : goal.returns-then-not-supported
unfolding usable
returns-then-not-supported c = search ladder

pub bit-requires : goal.bit-requires
unfolding usable
bit-requires c = search rules

pub returns : goal.returns
unfolding usable
returns c = search ladder
