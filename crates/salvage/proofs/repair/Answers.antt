use borrow.Author.Rules.{rules}
use Rattle.salvage.proofs.Whole.{begins, left-inside, repaired-is}
use Rattle.salvage.proofs.repair.Goals as goal

pub read_parts-stop-requires : goal.read_parts-stop-requires
read_parts-stop-requires c = search (rules, begins)

pub overflow_sub-left : goal.overflow_sub-left
overflow_sub-left c = search left-inside

pub returns : goal.returns
returns c = repaired-is _ _ _ c.requires.features-long _ _ _ _ _ c.copy.ensures c.read_parts-stop.ensures
    _ _ _ _ _ _ _ _ c.parts_size.ensures c.write_all.ensures c.write_kept.ensures
    c.write_counts.ensures
