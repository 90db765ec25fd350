-- `running::both` meets its contract. Assumes nothing.
use Rattle.running.proofs.Falling.{both_close, both_stay}
use Rattle.std.proofs.Common.{rules}
use native.Mathlib.Omega.{arith}
use Rattle.running.proofs.Ranges.{done_left, done_right, waiting_fits, left_within, up_within}
use Rattle.running.proofs.both.Goals as goal

pub overflow_sub-whole : goal.overflow_sub-whole
overflow_sub-whole c = search done_left

pub write_cell-requires : goal.write_cell-requires
write_cell-requires c =
    let f = waiting_fits c.requires.waiting (λ i. search rules) in
    (search left_within, omega arith)

pub overflow_add-result-then-t-eq22 : goal.overflow_add-result-then-t-eq22
overflow_add-result-then-t-eq22 c = omega (arith, done_right)

pub returns-then-t-eq22 : goal.returns-then-t-eq22
returns-then-t-eq22 c = search both_close

pub write_cell-requires-2 : goal.write_cell-requires-2
write_cell-requires-2 c =
    let f = waiting_fits c.requires.waiting (λ i. search rules) in
    (search up_within, omega arith)

pub returns : goal.returns
returns c = search both_stay
