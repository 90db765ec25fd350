-- `equality::same_tree` and `same_field` meet their contracts, over kind and field. The measures: 2 i + 1 for cell i, one more for a field that
-- refers to it, and 0 for a field that refers to nothing. Assumes nothing.
use Prim.Native.Nat.{◌+◌, ◌*◌}
use Rattle.cells.proofs.Rows.{field_measure}
use Rattle.std.proofs.Common.{◌+◌, ◌*◌}
use Rattle.equality.proofs.+same_trees.Given as goal

abbrev pub decreases-same_field : goal.decreases-same_field
decreases-same_field l = field_measure l.u l.x

abbrev pub decreases-same_tree : goal.decreases-same_tree
decreases-same_tree l = 2 * l.i + 1
