-- `running::become_single` meets its contract. Assumes nothing.
use native.Mathlib.Omega.{arith}
use Rattle.running.proofs.Ranges.{redex_start, redex_low, start_within}
use Rattle.running.proofs.Projecting.{becomes_single}
use Rattle.running.proofs.become_single.Goals as goal

pub write_cell-requires : goal.write_cell-requires
write_cell-requires c = (search start_within, search)

pub overflow_add-p : goal.overflow_add-p
overflow_add-p c = omega (arith, redex_start)

pub became-requires : goal.became-requires
became-requires c = search redex_low

pub returns : goal.returns
returns c = search becomes_single
