-- `add` meets its contract: the cell is written. Assumes nothing.
use Rattle.typing.proofs.Leaves.{adds}
use Rattle.typing.proofs.Types.add.Goals as goal

pub returns-clause-adds : goal.returns-clause-adds
returns-clause-adds c = adds _ c.requires c.write_cell.ensures
