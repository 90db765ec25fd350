-- `running::install_ahead` meets its contract. Assumes nothing.
use native.Mathlib.Omega.{arith}
use Rattle.running.proofs.Contracting.{ordered, root_low, place_right, installs_right}
use Rattle.running.proofs.install_ahead.Goals as goal

pub overflow_sub-n : goal.overflow_sub-n
overflow_sub-n c = search ordered

pub overflow_add-right : goal.overflow_add-right
overflow_add-right c = omega (arith, root_low)

pub place-requires : goal.place-requires
place-requires c = search place_right

pub returns : goal.returns
returns c = search installs_right
