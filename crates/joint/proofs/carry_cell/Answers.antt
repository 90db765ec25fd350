-- `joint::carry_cell` meets its contract. Assumes nothing.
use Rattle.joint.proofs.Raising.{is_raised}
use Rattle.joint.proofs.Carrying.{carry_ready, carries_cell}
use Rattle.joint.proofs.carry_cell.Goals as goal
use Rattle.joint.proofs.carry_cell.Goals.{After-in_version-t}
use Rattle.cells.specs.Coded.{as_cell}
use Rattle.cells.specs.Moves.{CellMoves}

moves : (c : After-in_version-t) → CellMoves 0 c.args.k (as_cell c.in_version-t.result)
moves c = carry_ready (λ j. (c.type_inv.s j).fits) c.requires c.args.version c.args.own (rw c.read_cell.ensures at c.in_version-t.ensures)

pub cell-requires : goal.cell-requires
cell-requires c = moves (goal.at.cell-requires c).After-in_version-t

pub returns : goal.returns
returns c =
    carries_cell c.read_cell.ensures c.in_version-t.ensures (is_raised (moves (goal.at.returns c).After-in_version-t) c.cell.ensures.moved) c.write_cell.ensures
