-- `loading::marked` meets its contract. Assumes nothing.
use native.Mathlib.Omega.{arith}
use Rattle.cells.specs.Coded.{as_cell}
use Rattle.loading.proofs.Marking.{mark_fits}
use Rattle.loading.proofs.marked.Goals as goal

pub returns-then-t-lt-FIRST_TERM-clause-fits : goal.returns-then-t-lt-FIRST_TERM-clause-fits
returns-then-t-lt-FIRST_TERM-clause-fits c =
    λ f. record { a = omega arith; b = omega arith; c = rw c.mark_of.ensures (mark_fits _ (λ j. (c.type_inv.s j).fits) (as_cell c.args.t) _) }
