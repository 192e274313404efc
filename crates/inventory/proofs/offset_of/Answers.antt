-- The table has the running sums of the sizes.
use Rattle.inventory.specs.Inventory.{row_at, rows}
use Rattle.inventory.proofs.Rules.{offset-own}
use Rattle.inventory.proofs.offset_of.Goals as goal

pub returns : goal.returns
unfolding row_at rows
returns c = offset-own c.args.i c.requires
