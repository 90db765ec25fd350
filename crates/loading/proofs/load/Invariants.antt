-- `loading::load` meets its contract. The loop's invariant: the cells below i are loaded. Assumes nothing.
use Rattle.format.specs.Widths.{wide_cells}
use Rattle.loading.specs.Loaded.{Loaded}
use Rattle.loading.proofs.load.Given as goal

abbrev pub invariant-loop-i : goal.invariant-loop-i
invariant-loop-i l = Loaded (wide_cells l.version l.b) l.s l.i
