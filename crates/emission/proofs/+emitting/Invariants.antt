-- The measures: 2 i + 1 for cell i, one more for a field that refers to it, and 0 for a field that refers to nothing. Assumes nothing.
use Prim.Native.Nat.{◌+◌, ◌*◌}
use Rattle.cells.proofs.Rows.{field_measure}
use Rattle.emission.proofs.+emitting.Given as goal

abbrev pub decreases-emit_field : goal.decreases-emit_field
decreases-emit_field l = field_measure l.u l.x

abbrev pub decreases-emit_tree : goal.decreases-emit_tree
decreases-emit_tree l = 2 * l.i + 1
