use Rattle.std.proofs.Common.{ap, Ok}
use Rattle.changes.proofs.change.Goals as goal

pub returns-in-Create : goal.returns-in-Create
returns-in-Create c = rw c.in-Create.is c.create.ensures

pub returns-in-Modify : goal.returns-in-Modify
returns-in-Modify c = rw c.in-Modify.is c.modify.ensures

pub returns-in-Destroy : goal.returns-in-Destroy
returns-in-Destroy c = rw c.in-Destroy.is c.destroy.ensures

pub returns-in-SetParts : goal.returns-in-SetParts
returns-in-SetParts c = rw c.in-SetParts.is c.set_parts.ensures

pub returns-in-SetMode : goal.returns-in-SetMode
returns-in-SetMode c = rw c.in-SetMode.is (ap Ok c.set_mode.ensures)
