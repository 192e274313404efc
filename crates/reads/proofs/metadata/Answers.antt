use Rattle.reads.proofs.metadata.Goals as goal

pub returns-in-Size : goal.returns-in-Size
returns-in-Size c = rw (c.in-Size.is, c.parts_size.ensures)

pub returns-in-Count : goal.returns-in-Count
returns-in-Count c = rw (c.in-Count.is, c.part_count.ensures)
