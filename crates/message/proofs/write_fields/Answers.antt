use Rattle.message.proofs.Responded.{fields-written}
use Rattle.message.proofs.write_fields.Goals as goal

pub returns : goal.returns
returns c = fields-written _ _ _ _ _ _ _ c.write.ensures c.write-2.ensures c.write-3.ensures
