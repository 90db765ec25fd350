-- `moving::shift_cell` meets its contract. Assumes nothing.
use native.Mathlib.Omega.{arith}
use Rattle.moving.proofs.Shifting.{cell_ready, shifts_cell}
use Rattle.moving.proofs.shift_cell.Goals as goal

pub cell-t-requires : goal.cell-t-requires
cell-t-requires c =
    cell_ready (λ j. grind arith) c.requires c.read_cell.ensures

pub returns : goal.returns
returns c =
    shifts_cell c.requires c.read_cell.ensures c.cell-t.ensures.moved c.write_cell.ensures
