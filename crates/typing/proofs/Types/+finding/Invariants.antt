-- Finding and checking meet their contracts. The measure is the term's cell with a mode: 3 * i for an arm, 3 * i + 1 for `find`,
-- 3 * i + 2 for `find_left` and `check`; parts are lower cells. Assumes nothing.
use Rattle.std.proofs.Common.{◌+◌, ◌*◌}
use Rattle.typing.proofs.Types.+finding.Given as goal

abbrev pub decreases-check : goal.decreases-check
decreases-check l = 3 * l.i + 2

abbrev pub decreases-find : goal.decreases-find
decreases-find l = 3 * l.i + 1

abbrev pub decreases-find_anno : goal.decreases-find_anno
decreases-find_anno l = 3 * l.i

abbrev pub decreases-find_app : goal.decreases-find_app
decreases-find_app l = 3 * l.i

abbrev pub decreases-find_choice : goal.decreases-find_choice
decreases-find_choice l = 3 * l.i

abbrev pub decreases-find_fix : goal.decreases-find_fix
decreases-find_fix l = 3 * l.i

abbrev pub decreases-find_lam : goal.decreases-find_lam
decreases-find_lam l = 3 * l.i

abbrev pub decreases-find_left : goal.decreases-find_left
decreases-find_left l = 3 * l.i + 2

abbrev pub decreases-find_merge : goal.decreases-find_merge
decreases-find_merge l = 3 * l.i

abbrev pub decreases-find_proj : goal.decreases-find_proj
decreases-find_proj l = 3 * l.i

abbrev pub decreases-find_rcd : goal.decreases-find_rcd
decreases-find_rcd l = 3 * l.i

abbrev pub decreases-find_sum : goal.decreases-find_sum
decreases-find_sum l = 3 * l.i
