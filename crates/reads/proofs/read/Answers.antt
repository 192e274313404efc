use Rattle.reads.proofs.Steps.{metadata-by, selected-by}
use Rattle.reads.proofs.read.Goals as goal

pub returns-in-QueryObject : goal.returns-in-QueryObject
returns-in-QueryObject c = rw c.in-QueryObject.is c.query.ensures

pub returns-in-GetMetadata : goal.returns-in-GetMetadata
returns-in-GetMetadata c = rw c.in-GetMetadata.is (metadata-by _ _ _ c.queues_of-queues.ensures _ c.in-GetMetadata.what c.get_metadata.ensures)

pub returns-in-GetSelected : goal.returns-in-GetSelected
returns-in-GetSelected c = rw c.in-GetSelected.is (selected-by _ _ _ c.queues_of-queues.ensures _ _ c.get_selected.ensures)

pub returns-in-GetAll : goal.returns-in-GetAll
returns-in-GetAll c = rw c.in-GetAll.is c.get_all.ensures
