-- `running::take` meets its contract. Assumes nothing.
use native.Mathlib.Omega.{arith}
use Rattle.running.proofs.Ranges.{ahead_low, ahead_some}
use Rattle.running.proofs.Enters.{focus_cells, enters_value}
use Rattle.running.proofs.take.Goals as goal

pub overflow_add-n : goal.overflow_add-n
overflow_add-n c = omega (arith, ahead_low)

pub overflow_sub-n : goal.overflow_sub-n
overflow_sub-n c = omega (arith, ahead_some)

pub shift-requires : goal.shift-requires
shift-requires c = search focus_cells

pub overflow_add-result-2 : goal.overflow_add-result-2
overflow_add-result-2 c = omega (arith, ahead_low)

pub returns : goal.returns
returns c = search enters_value
