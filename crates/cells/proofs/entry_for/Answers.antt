-- `cells::entry_for` meets its contract. Assumes nothing.
use native.Mathlib.Omega.{arith}
use mathlib.Core.Path.{◌∙◌}
use Rattle.cells.proofs.Table.{number_of_one, other_row}
use Rattle.cells.proofs.entry_for.Goals as goal

pub returns-then-kind-ne17 : goal.returns-then-kind-ne17
returns-then-kind-ne17 c =
    let at = c.args in
    c.entry_of.ensures ∙ other_row at.version at.kind c.if-kind-ne17.true (omega arith)

pub returns-in-One : goal.returns-in-One
returns-in-One c = rw (c.in-One.is, c.if-kind-ne17.false) number_of_one
