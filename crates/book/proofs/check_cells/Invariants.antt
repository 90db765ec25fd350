-- `book::check_cells` is rows 5 to 8 of the cells, ascending. The loop's invariant: what is found is found from cell i on. Assumes nothing.
use Rattle.std.proofs.Common.{◌-◌, ◌≡◌}
use Rattle.format.specs.Book.{cells_finding}
use Rattle.book.proofs.check_cells.Given as goal

abbrev pub invariant-loop-i : goal.invariant-loop-i
invariant-loop-i l = cells_finding l.version l.s l.fn.n 0 ≡ cells_finding l.version l.s (l.fn.n - l.i) l.i
