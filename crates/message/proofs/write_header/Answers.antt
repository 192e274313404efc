use Rattle.std.proofs.Common.{refl, arith}
use Rattle.message.proofs.Responded.{header-written}
use Rattle.message.proofs.write_header.Goals as goal

pub overflow_cast-message : goal.overflow_cast-message
overflow_cast-message c = omega (arith, c.type_inv.message 1)

pub returns : goal.returns
returns c = header-written _ _ _ _ _ _ _ _ _ _ _ refl c.read_u16.ensures c.read_u16-2.ensures
    c.write.ensures c.write-2.ensures c.write-3.ensures c.write-4.ensures
    c.write-5.ensures
