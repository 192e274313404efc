use borrow.Author.Rules.{rules}
use Rattle.theory.proofs.Ladder.{ladder}
use Rattle.salvage.specs.Salvage.{salvage_of}
use Rattle.salvage.proofs.Refusals.{taken-fits}
use Rattle.salvage.proofs.salvage_in.Goals as goal

pub returns-then-not-is_taken : goal.returns-then-not-is_taken
unfolding salvage_of
returns-then-not-is_taken c = search ladder

pub repair-requires : goal.repair-requires
repair-requires c = search (rules, taken-fits)

pub returns : goal.returns
unfolding salvage_of
returns c = search (ladder, rules)
