-- `running::second` meets its contract. Assumes nothing.
use Rattle.running.proofs.Falling.{turns}
use Rattle.std.proofs.Common.{rules}
use native.Mathlib.Omega.{arith}
use Rattle.running.proofs.Ranges.{done_left, done_start, waiting_fits, up_within}
use Rattle.running.proofs.second.Goals as goal

pub overflow_sub-p : goal.overflow_sub-p
overflow_sub-p c = search done_left

pub overflow_add-p : goal.overflow_add-p
overflow_add-p c = omega (arith, done_start)

pub write_cell-requires : goal.write_cell-requires
write_cell-requires c =
    let f = waiting_fits c.requires.waiting (λ i. search rules) in
    (search up_within, omega arith)

pub returns : goal.returns
returns c = search turns
