-- `cells::read_cell` meets its contract: its five fields are those of the cell at i. Assumes nothing.
use Rattle.format.specs.Cell.{cell_at}
use Rattle.cells.proofs.read_cell.Goals as goal

pub returns : goal.returns
unfolding cell_at
returns c = cc (c.read_pair.ensures, c.read_pair-2.ensures, c.read_pair-3.ensures)
