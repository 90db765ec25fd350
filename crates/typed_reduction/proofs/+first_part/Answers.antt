-- The first part of a held value that passes a test is found exactly. The measure is the value's size. Assumes nothing.
use native.Mathlib.Omega.{arith}
use mathlib.Core.Path.{sym, ◌∙◌}
use Rattle.cells.proofs.Held.{held_within}
use Rattle.emission.proofs.Runs.{holds_term}
use Rattle.typed_reduction.proofs.Parts.{is_found, is_none, merge_halves, left_parts, right_parts, own_part, first_left, first_right, first_itself}
use Rattle.typed_reduction.proofs.+first_part.Goals as goal

pub read_cell-x-requires : goal.read_cell-x-requires
read_cell-x-requires g t c = held_within (holds_term c.requires.value.holds)

pub first_part-left-requires : goal.first_part-left-requires
first_part-left-requires g t c κs within =
    let h = merge_halves c.read_cell-x.ensures c.requires.value.holds c.if-x-eq22.true in
    (omega (arith, h.smaller.0, c.decreases), (within, (h.first, λ p o. c.requires.tested p (left_parts c.read_cell-x.ensures c.if-x-eq22.true o))))

pub returns-then-is_some : goal.returns-then-is_some
returns-then-is_some g t c =
    first_left c.read_cell-x.ensures c.if-x-eq22.true c.first_part-left.ensures (is_found (sym c.is_some.ensures ∙ c.if-is_some.true))

pub first_part-requires : goal.first_part-requires
first_part-requires g t c κs within =
    let h = merge_halves c.read_cell-x.ensures c.requires.value.holds c.if-x-eq22.true in
    (omega (arith, h.smaller.1, c.decreases), (within, (h.second, λ p o. c.requires.tested p (right_parts c.read_cell-x.ensures c.if-x-eq22.true o))))

pub returns-then-x-eq22 : goal.returns-then-x-eq22
returns-then-x-eq22 g t c =
    first_right c.read_cell-x.ensures c.if-x-eq22.true c.first_part-left.ensures (is_none (sym c.is_some.ensures ∙ c.if-is_some.false)) c.first_part.ensures

pub test-requires : goal.test-requires
test-requires g t c = c.requires.tested c.args.v (own_part c.read_cell-x.ensures c.requires.value.holds c.if-x-eq22.false)

pub returns : goal.returns
returns g t c = rw c.then_some.ensures (first_itself c.read_cell-x.ensures c.test.result c.if-x-eq22.false c.test.ensures)
