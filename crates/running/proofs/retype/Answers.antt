-- `running::retype` meets its contract. Assumes nothing.
use native.Mathlib.Omega.{arith}
use Rattle.running.proofs.Ranges.{redex_low}
use Rattle.running.proofs.Projecting.{becomes_at}
use Rattle.running.proofs.Casting.{type_some, body_low, ends_low, retype_shift, retypes}
use Rattle.running.proofs.retype.Goals as goal

pub overflow_add-at : goal.overflow_add-at
overflow_add-at c = omega (arith, ends_low)

pub overflow_sub-n : goal.overflow_sub-n
overflow_sub-n c = omega (arith, type_some)

pub overflow_add-y : goal.overflow_add-y
overflow_add-y c = omega (arith, type_some)

pub shift-requires : goal.shift-requires
shift-requires c = search retype_shift

pub overflow_add-at-2 : goal.overflow_add-at-2
overflow_add-at-2 c = omega (arith, ends_low)

pub overflow_add-at-3 : goal.overflow_add-at-3
overflow_add-at-3 c = omega (arith, ends_low)

pub write_cell-requires : goal.write_cell-requires
write_cell-requires c = (omega (arith, ends_low), record { a = omega (arith, body_low); b = omega (arith, ends_low); c = omega (arith, ends_low) })

pub overflow_add-at-4 : goal.overflow_add-at-4
overflow_add-at-4 c = omega (arith, ends_low)

pub overflow_add-at-5 : goal.overflow_add-at-5
overflow_add-at-5 c = omega (arith, ends_low)

pub became-requires : goal.became-requires
became-requires c = search redex_low

pub returns : goal.returns
returns c = search (becomes_at, retypes)
