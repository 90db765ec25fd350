-- `moving::place_cell` meets its contract. Assumes nothing.
use native.Mathlib.Omega.{arith}
use Rattle.moving.proofs.Placing.{cell_ready, mark_ready, places_cell}
use Rattle.moving.proofs.place_cell.Goals as goal

pub cell-t-requires : goal.cell-t-requires
cell-t-requires c =
    cell_ready c.requires c.read_cell.ensures (λ j. (c.type_inv.s j).fits)

pub marked-requires : goal.marked-requires
marked-requires c =
    mark_ready c.requires c.read_cell.ensures c.cell-t.ensures.moved

pub write_cell-requires : goal.write_cell-requires
write_cell-requires c =
    (omega (arith, c.requires.inside, c.requires.long), c.marked.ensures.fits c.cell-t.ensures.fits)

pub returns : goal.returns
returns c =
    places_cell c.requires c.read_cell.ensures c.cell-t.ensures.moved (rw c.marked.ensures.cell at c.write_cell.ensures)
