-- `running::install_halves` meets its contract. Assumes nothing.
use native.Mathlib.Omega.{arith}
use Rattle.running.proofs.Halving.{low, high, apart, left_low, root_small, end_small, place_function, place_type, root_within, installs_halves}
use Rattle.running.proofs.install_halves.Goals as goal

pub overflow_add-done : goal.overflow_add-done
overflow_add-done c = omega (arith, high, end_small)

pub overflow_sub-done : goal.overflow_sub-done
overflow_sub-done c = omega (arith, low)

pub overflow_add-left : goal.overflow_add-left
overflow_add-left c = omega (arith, apart)

pub place-requires : goal.place-requires
place-requires c = search place_function

pub overflow_sub-n : goal.overflow_sub-n
overflow_sub-n c = omega (arith, high)

pub overflow_sub-n-2 : goal.overflow_sub-n-2
overflow_sub-n-2 c = omega (arith, high)

pub overflow_sub-right : goal.overflow_sub-right
overflow_sub-right c = omega (arith, apart)

pub place-requires-2 : goal.place-requires-2
place-requires-2 c = search place_type

pub overflow_sub-left : goal.overflow_sub-left
overflow_sub-left c = omega (arith, low)

pub overflow_sub-p : goal.overflow_sub-p
overflow_sub-p c = omega (arith, apart)

pub write_cell-requires : goal.write_cell-requires
write_cell-requires c = (search root_within, record { a = omega (arith, left_low); b = omega (arith, root_small); c = omega arith })

pub returns : goal.returns
returns c = search installs_halves
