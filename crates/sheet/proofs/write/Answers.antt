use Rattle.sheet.proofs.Lines.{numbers_fit, end-room, end-put, end-next}
use Rattle.sheet.proofs.write.Goals as goal

pub put_numbers-at-requires : goal.put_numbers-at-requires
put_numbers-at-requires c = search numbers_fit

pub put_end-requires : goal.put_end-requires
put_end-requires c = search end-room

pub returns : goal.returns
returns c = (search end-put, search end-next)
