-- `decisions::closed` meets its contract, over kind and field. A field that refers to no cell costs no call. Assumes nothing.
use Rattle.cells.proofs.Rows.{field_measure}
use Rattle.decisions.proofs.+closed.Given as goal

abbrev pub decreases-closed : goal.decreases-closed
decreases-closed l = field_measure l.u l.i
