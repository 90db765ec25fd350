-- `running::descend` meets its contract. Assumes nothing.
use Rattle.std.proofs.Common.{rules}
use native.Mathlib.Omega.{arith}
use Rattle.running.proofs.Ranges.{descending_fits, root_within}
use Rattle.running.proofs.Enters.{enters_below}
use Rattle.running.proofs.descend.Goals as goal

pub write_cell-requires : goal.write_cell-requires
write_cell-requires c =
    let f = descending_fits c.requires (λ i. search rules) c.third.ensures in
    (search root_within, omega arith)

pub returns : goal.returns
returns c = search enters_below
