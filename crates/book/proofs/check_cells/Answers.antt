-- `book::check_cells` is rows 5 to 8 of the cells, ascending. The loop's invariant: what is found is found from cell i on. Assumes nothing.
use native.Mathlib.Omega.{arith}
use Rattle.std.proofs.lemmas.Result.{err_from_is_err_and}
use Rattle.book.proofs.Cells.{stops, goes_on, ends}
use Rattle.book.proofs.check_cells.Goals as goal

pub returns-in_err-check_cell : goal.returns-in_err-check_cell
returns-in_err-check_cell c =
    let l = c.loop-i in
    let p = err_from_is_err_and c.from_residual.result c.from_residual.ensures.1 in
    rw (p.1, p.2) (stops l.i l.invariant (omega arith) c.in_err-check_cell.ensures)

pub loop-i-preserved : goal.loop-i-preserved
loop-i-preserved c =
    let l = c.loop-i in
    goes_on l.i l.invariant (omega arith) c.in_ok-check_cell.ensures

pub returns : goal.returns
returns c =
    let l = c.loop-i in
    ends l.i l.invariant (omega arith)
