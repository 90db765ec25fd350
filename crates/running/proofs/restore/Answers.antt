-- `running::restore` meets its contract. Assumes nothing.
use Rattle.std.proofs.Common.{rules}
use native.Mathlib.Omega.{arith}
use mathlib.Core.Path.{refl}
use mathlib.Core.Logic.{inl, inr}
use Rattle.running.proofs.Unwinding.{restore_within}
use Rattle.running.proofs.Settling.{restore_fits, first_restores, second_restores}
use Rattle.running.proofs.restore.Goals as goal
use Rattle.running.proofs.restore.Goals.{then-t-eq0-via-then-t-eq0, then-t-eq0-via-else-t-eq0+then-t-eq27}

pub write_cell-requires : goal.write_cell-requires
write_cell-requires c =
    let f = restore_fits c.requires c.read_cell-t.ensures (λ i. search rules) in
    (search restore_within, omega arith)

-- the premises by name: with another cell written, the fact that fails is the cell
pub returns-then-t-eq0 : goal.returns-then-t-eq0
returns-then-t-eq0 c =
    first_restores c.requires c.read_cell-t.ensures
    (elim c.then-t-eq0.branch [ then-t-eq0-via-then-t-eq0 h ↦ inl (search h) | then-t-eq0-via-else-t-eq0+then-t-eq27 h ↦ inr (search h) ]) c.write_cell.ensures refl

pub write_cell-requires-2 : goal.write_cell-requires-2
write_cell-requires-2 c =
    let f = restore_fits c.requires c.read_cell-t.ensures (λ i. search rules) in
    (search restore_within, omega arith)

pub returns : goal.returns
returns c =
    second_restores c.requires c.read_cell-t.ensures c.if-t-eq0.false c.if-t-eq27.false c.write_cell-2.ensures refl
