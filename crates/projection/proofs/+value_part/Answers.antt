-- `value_part` meets its contract. Assumes nothing.
use native.Mathlib.Omega.{arith}
use Rattle.projection.proofs.Values.{halves, inside}
use Rattle.projection.proofs.Values.{finds_left, finds_right, finds_content, finds_top_like, finds_nothing, finds_no_record}
use Rattle.projection.proofs.+value_part.Goals as goal

pub value_part-requires : goal.value_part-requires
value_part-requires t c =
    let h = halves c.read_cell-x.ensures c.requires c.in-22.is in (omega (arith, h.first_lower, c.decreases), h.first)

pub returns-in-Some : goal.returns-in-Some
returns-in-Some t c = finds_left c.read_cell-x.ensures c.in-22.is c.value_part.ensures c.in-Some.is

pub overflow_add-x : goal.overflow_add-x
overflow_add-x t c = omega (arith, (halves c.read_cell-x.ensures c.requires c.in-22.is).first_lower)

pub value_part-requires-in-22 : goal.value_part-requires-in-22
value_part-requires-in-22 t c =
    let h = halves c.read_cell-x.ensures c.requires c.in-22.is in (omega (arith, h.second_lower, c.decreases), h.second)

pub shows_top_like-requires : goal.shows_top_like-requires
shows_top_like-requires t c = record { start = _; from = (inside c.read_cell-x.ensures c.requires c.in-24.is).from }

pub returns-in_default-value_part : goal.returns-in_default-value_part
returns-in_default-value_part t c =
    finds_right c.read_cell-x.ensures c.in-22.is c.value_part.ensures c.in_default-value_part.is c.value_part-in-22.ensures

pub returns-in-24 : goal.returns-in-24
returns-in-24 t c = finds_content c.read_cell-x.ensures c.in-24.is c.shows_top_like.ensures c.if-x-label.true c.if-not-shows_top_like.true

pub returns-in_default : goal.returns-in_default
returns-in_default t c = finds_top_like c.read_cell-x.ensures c.in-24.is c.shows_top_like.ensures c.if-not-shows_top_like.false

pub returns-in_default-2 : goal.returns-in_default-2
returns-in_default-2 t c = finds_nothing c.read_cell-x.ensures (λ k. omega (arith, k, c.in-24.is)) (λ k. c.if-x-label.false)

pub returns-in_default-3 : goal.returns-in_default-3
returns-in_default-3 t c = finds_no_record c.read_cell-x.ensures (search c.in_default) (search c.in_default)
