-- `running::leave` meets its contract. Assumes nothing.
use Rattle.running.proofs.Ranges.{up_within}
use Rattle.running.proofs.Leaves.{leaves_whole}
use Rattle.running.proofs.leave.Goals as goal

pub returns-then-p-eq0 : goal.returns-then-p-eq0
returns-then-p-eq0 c = search leaves_whole

pub read_cell-t-requires : goal.read_cell-t-requires
read_cell-t-requires c = search up_within
