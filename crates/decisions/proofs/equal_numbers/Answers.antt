-- `decisions::equal_numbers` meets its contract. Assumes nothing.
use native.Mathlib.Omega.{arith}
use Rattle.format.specs.Cell.{IsBytes}
use Rattle.cells.specs.Coded.{as_cell}
use Rattle.decisions.proofs.Agree.{Fit, cell_fit, one_number}
use Rattle.decisions.proofs.equal_numbers.Goals as goal
use Rattle.decisions.proofs.equal_numbers.Goals.{Else-x-y}

-- the fields of both cells, once their kinds and their fields a are the same
read : (c : Else-x-y) → Fit (as_cell c.read_cell-x.result) × Fit (as_cell c.read_cell-y.result)
read c =
    let bytes : IsBytes c.args.s.now = λ j. (c.type_inv.s j).fits in
    (cell_fit _ _ bytes c.read_cell-x.ensures, cell_fit _ _ bytes c.read_cell-y.ensures)

pub overflow_mul-result : goal.overflow_mul-result
overflow_mul-result c = let f = read (goal.at.overflow_mul-result c).Else-x-y in omega (arith, f.0.1)

pub overflow_add-result : goal.overflow_add-result
overflow_add-result c = let f = read (goal.at.overflow_add-result c).Else-x-y in omega (arith, f.0.0, f.0.1)

pub overflow_mul-result-2 : goal.overflow_mul-result-2
overflow_mul-result-2 c = let f = read (goal.at.overflow_mul-result-2 c).Else-x-y in omega (arith, f.1.1)

pub overflow_add-result-2 : goal.overflow_add-result-2
overflow_add-result-2 c = let f = read (goal.at.overflow_add-result-2 c).Else-x-y in omega (arith, f.1.0, f.1.1)

pub returns : goal.returns
returns c = one_number (λ j. (c.type_inv.s j).fits) c.read_cell-x.ensures c.read_cell-y.ensures c.if-x-ne17.false c.if-y-ne17.false c.if-x-y.false
