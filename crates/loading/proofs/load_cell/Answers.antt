-- `loading::load_cell` meets its contract. Assumes nothing.
use mathlib.Core.Path.{refl}
use Rattle.cells.specs.Coded.{as_cell}
use Rattle.loading.proofs.Loading.{Read, ready, fits, room, loaded}
use Rattle.loading.proofs.load_cell.Goals as goal
use Rattle.loading.proofs.load_cell.Goals.{After-widen-t}

-- the cell, once it is read
read : (c : After-widen-t) → Read c.args.version c.args.b.now c.args.s.now c.args.i (as_cell c.read_cell.result) (as_cell c.widen-t.result)
read c = record { next = c.requires; own = c.read_cell.ensures; cell = c.widen-t.ensures; bytes = λ j. (c.type_inv.b j).fits }

pub marked-requires : goal.marked-requires
marked-requires c = ready (read (goal.at.marked-requires c).After-widen-t)

pub write_cell-requires : goal.write_cell-requires
write_cell-requires c = let r = read (goal.at.write_cell-requires c).After-widen-t in (room r, c.marked.ensures.fits (fits r refl))

pub returns : goal.returns
returns c = loaded (read (goal.at.returns c).After-widen-t) (rw c.marked.ensures.cell at c.write_cell.ensures)
