-- `running::single` meets its contract. Assumes nothing.
use Rattle.running.proofs.Falling.{single_closes, single_stays}
use Rattle.running.proofs.Ranges.{done_left, done_right, waiting_fits, left_within, up_within}
use Rattle.std.proofs.Common.{rules}
use native.Mathlib.Omega.{arith}
use Rattle.running.proofs.single.Goals as goal

pub overflow_sub-whole : goal.overflow_sub-whole
overflow_sub-whole c = search done_left

pub write_cell-requires : goal.write_cell-requires
write_cell-requires c =
    let f = waiting_fits c.requires.waiting (λ i. search rules) in
    (search left_within, omega arith)

pub overflow_add-result-then-t-eq24 : goal.overflow_add-result-then-t-eq24
overflow_add-result-then-t-eq24 c = omega (arith, done_right)

pub returns-then-t-eq24 : goal.returns-then-t-eq24
returns-then-t-eq24 c = search single_closes

pub write_cell-requires-2 : goal.write_cell-requires-2
write_cell-requires-2 c =
    let f = waiting_fits c.requires.waiting (λ i. search rules) in
    (search up_within, omega arith)

pub returns : goal.returns
returns c = search single_stays
