-- `cells::write_cell` meets its contract: the eight bytes are stored one after the other. Assumes nothing.
use Rattle.cells.specs.Coded.{as_cell}
use Rattle.cells.proofs.Written.{cell_written}
use Rattle.cells.proofs.write_cell.Goals as goal

pub returns : goal.returns
returns c =
    let start = c.args in
    let first = c.write_pair.ensures in
    let second = c.write_pair-2.ensures in
    cell_written start.s.now _ _ _ (as_cell start.t) first second c.write_pair-3.ensures
