-- `counting::count_field` falls by the measure of its field. Assumes nothing.
use Rattle.cells.proofs.Rows.{field_measure}
use Rattle.counting.proofs.+count_field.Given as goal

abbrev pub decreases-count_field : goal.decreases-count_field
decreases-count_field l = field_measure l.u l.i
