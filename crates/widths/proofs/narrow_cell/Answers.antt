-- `widths::narrow_cell` meets its contract. Assumes nothing.
use native.Mathlib.Omega.{arith}
use Rattle.widths.proofs.Narrowing.{fields_fit, number_narrows, other_narrows}
use Rattle.std.proofs.Common.{rules}
use Rattle.widths.proofs.narrow_cell.Goals as goal

pub write_cell-requires : goal.write_cell-requires
write_cell-requires c =
    let fits = fields_fit _ _ (λ j. grind arith) c.read_cell-t.ensures in
    search rules

pub returns-then-d-i-eq17 : goal.returns-then-d-i-eq17
returns-then-d-i-eq17 c =
    number_narrows c.read_cell-t.ensures c.if-d-i-eq17.true c.write_cell.ensures

pub returns-else-d-i-eq17 : goal.returns-else-d-i-eq17
returns-else-d-i-eq17 c = other_narrows (λ j. (c.type_inv.d j).fits) c.if-d-i-eq17.false
