-- `shows_top_like` meets its contract. Assumes nothing.
use native.Mathlib.Omega.{arith}
use Rattle.projection.proofs.Values.{output_within, halves, inside, record_left}
use Rattle.projection.proofs.Values.{shows_number, shows_top, shows_function, shows_both, shows_not_first, shows_content}
use Rattle.projection.proofs.+shows_top_like.Goals as goal

pub read_cell-requires : goal.read_cell-requires
read_cell-requires t c = output_within c.read_cell-x.ensures c.requires c.in-21.is

pub shows_top_like-requires : goal.shows_top_like-requires
shows_top_like-requires t c =
    let h = halves c.read_cell-x.ensures c.requires.from c.in-22.is in
    (omega (arith, h.first_lower, c.decreases), record { start = _; from = h.first })

pub shows_top_like-requires-then-shows_top_like : goal.shows_top_like-requires-then-shows_top_like
shows_top_like-requires-then-shows_top_like t c =
    let h = halves c.read_cell-x.ensures c.requires.from c.in-22.is in
    (omega (arith, h.second_lower, c.decreases), record { start = _; from = h.second })

pub shows_top_like-requires-in_default : goal.shows_top_like-requires-in_default
shows_top_like-requires-in_default t c =
    let n = c.in_default in
    let h = inside c.read_cell-x.ensures c.requires.from (record_left c.read_cell-x.ensures c.requires.from (record { number = search c.in_default; top_value = search c.in_default; function = search c.in_default; merged = search c.in_default })) in
    (omega (arith, h.lower, c.decreases), record { start = _; from = h.from })

pub returns-in-17 : goal.returns-in-17
returns-in-17 t c = shows_number c.read_cell-x.ensures c.in-17.is

pub returns-in-18 : goal.returns-in-18
returns-in-18 t c = shows_top c.read_cell-x.ensures c.in-18.is

pub returns-in-21 : goal.returns-in-21
returns-in-21 t c = shows_function c.read_cell-x.ensures c.in-21.is c.read_cell.ensures

pub returns-then-shows_top_like : goal.returns-then-shows_top_like
returns-then-shows_top_like t c =
    shows_both c.read_cell-x.ensures c.in-22.is c.shows_top_like.ensures c.if-shows_top_like.true c.shows_top_like-then-shows_top_like.ensures

pub returns-else-shows_top_like : goal.returns-else-shows_top_like
returns-else-shows_top_like t c = shows_not_first c.read_cell-x.ensures c.in-22.is c.shows_top_like.ensures c.if-shows_top_like.false

pub returns-in_default : goal.returns-in_default
returns-in_default t c =
    shows_content c.read_cell-x.ensures (record_left c.read_cell-x.ensures c.requires.from (record { number = search c.in_default; top_value = search c.in_default; function = search c.in_default; merged = search c.in_default })) c.shows_top_like-in_default.ensures
