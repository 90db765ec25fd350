-- Whether and by which part a held value can be read under a held type is decided exactly. The measure is four times the sum of the two
-- sizes, and 3, 2, 1, 0 for the three functions and the test of a part. Assumes nothing.
use native.Mathlib.Omega.{arith}
use Rattle.cells.specs.Coded.{as_cell}
use Rattle.cells.proofs.Held.{held_within}
use Rattle.emission.proofs.Runs.{holds_type, holds_term}
use Rattle.typed_reduction.proofs.Deciding.{casts_top, Halves, halves, casts_both, casts_not_first, proper, casts_found}
use Rattle.typed_reduction.proofs.Deciding.{single, finds_part}
use Rattle.typed_reduction.proofs.Parts.{part_runs}
use Rattle.typed_reduction.proofs.Deciding.{CellsOf, casts_number, inputs, outputs, casts_function, casts_not_input, casts_no_function}
use Rattle.typed_reduction.proofs.Deciding.{contents, casts_record, casts_not_label, casts_no_record}
use Prim.Native.Nat.{ℕ}
use Rattle.typed_reduction.proofs.+castability.Goals as goal
use Rattle.typed_reduction.proofs.+castability.Goals.{is_castable-Then-y-eq4}
use Rattle.typed_reduction.proofs.+castability.Goals.{is_castable_part-After-read_cell-y}

split : (t : ℕ) → (c : is_castable-Then-y-eq4 t) → let from = c.args in Halves from.s.now from.v from.a c.read_cell-y.result.a c.read_cell-y.result.b
split t c = halves c.read_cell-y.ensures _ c.requires c.if-y-eq4.true

-- both cells are read
cells_of : (t : ℕ) → (c : is_castable_part-After-read_cell-y t) → let at = c.args in CellsOf at.s.now at.v at.a (as_cell c.read_cell-x.result) (as_cell c.read_cell-y.result)
cells_of t c = record { given = c.requires; value = c.read_cell-x.ensures; type = c.read_cell-y.ensures }

pub find_part-first_part-requires : goal.find_part-first_part-requires
find_part-first_part-requires t c =
    let h = c.requires.both.holds_value in
    record {
      value = record { value = c.requires.both.value; holds = h };
      tested = λ p o. (omega (arith, (part_runs o h).no_larger, c.decreases), single c.requires o);
    }

pub find_part-returns : goal.find_part-returns
find_part-returns t c = finds_part c.requires c.first_part.ensures (λ p b h. h)

pub is_castable-read_cell-y-requires : goal.is_castable-read_cell-y-requires
is_castable-read_cell-y-requires t c = held_within (holds_type c.requires.holds_type)

pub is_castable-returns-then-y-eq1 : goal.is_castable-returns-then-y-eq1
is_castable-returns-then-y-eq1 t c = casts_top c.read_cell-y.ensures _ c.if-y-eq1.true

pub is_castable-is_castable-requires : goal.is_castable-is_castable-requires
is_castable-is_castable-requires t c =
    let h = split t c in (omega (arith, h.smaller.0, c.decreases), h.first)

pub is_castable-is_castable-requires-then-is_castable : goal.is_castable-is_castable-requires-then-is_castable
is_castable-is_castable-requires-then-is_castable t c =
    let h = split t (goal.at.is_castable-is_castable-requires-then-is_castable t c).Then-y-eq4 in (omega (arith, h.smaller.1, c.decreases), h.second)

pub is_castable-returns-then-is_castable : goal.is_castable-returns-then-is_castable
is_castable-returns-then-is_castable t c =
    casts_both c.read_cell-y.ensures _ c.if-y-eq4.true c.is_castable.ensures c.if-is_castable.true c.is_castable-then-is_castable.ensures

pub is_castable-returns-then-y-eq4 : goal.is_castable-returns-then-y-eq4
is_castable-returns-then-y-eq4 t c =
    casts_not_first c.read_cell-y.ensures _ c.if-y-eq4.true c.is_castable.ensures c.if-is_castable.false

pub is_castable-find_part-requires : goal.is_castable-find_part-requires
is_castable-find_part-requires t c =
    (omega (arith, c.decreases), proper c.read_cell-y.ensures _ c.requires c.if-y-eq1.false c.if-y-eq4.false)

pub is_castable-returns : goal.is_castable-returns
is_castable-returns t c = rw c.is_some.ensures (casts_found c.find_part.ensures)

pub is_castable_part-read_cell-x-requires : goal.is_castable_part-read_cell-x-requires
is_castable_part-read_cell-x-requires t c = held_within (holds_term c.requires.at.both.holds_value)

pub is_castable_part-read_cell-y-requires : goal.is_castable_part-read_cell-y-requires
is_castable_part-read_cell-y-requires t c = held_within (holds_type c.requires.at.both.holds_type)

pub is_castable_part-returns-then-y-eq1 : goal.is_castable_part-returns-then-y-eq1
is_castable_part-returns-then-y-eq1 t c = casts_number (cells_of t (goal.at.is_castable_part-returns-then-y-eq1 t c).After-read_cell-y) c.if-y-eq1.true

pub is_castable_part-subtype-requires : goal.is_castable_part-subtype-requires
is_castable_part-subtype-requires t c = inputs (cells_of t (goal.at.is_castable_part-subtype-requires t c).After-read_cell-y) c.if-y-eq3.true c.if-x-eq21.true

pub is_castable_part-subtype-requires-then-subtype : goal.is_castable_part-subtype-requires-then-subtype
is_castable_part-subtype-requires-then-subtype t c =
    outputs (cells_of t (goal.at.is_castable_part-subtype-requires-then-subtype t c).After-read_cell-y) c.if-y-eq3.true c.if-x-eq21.true

pub is_castable_part-returns-then-subtype : goal.is_castable_part-returns-then-subtype
is_castable_part-returns-then-subtype t c =
    casts_function (cells_of t (goal.at.is_castable_part-returns-then-subtype t c).After-read_cell-y) c.if-y-eq3.true c.if-x-eq21.true c.subtype.ensures c.if-subtype.true c.subtype-then-subtype.ensures

pub is_castable_part-returns-else-subtype : goal.is_castable_part-returns-else-subtype
is_castable_part-returns-else-subtype t c =
    casts_not_input (cells_of t (goal.at.is_castable_part-returns-else-subtype t c).After-read_cell-y) c.if-y-eq3.true c.if-x-eq21.true c.subtype.ensures c.if-subtype.false

pub is_castable_part-returns-else-x-eq21 : goal.is_castable_part-returns-else-x-eq21
is_castable_part-returns-else-x-eq21 t c = casts_no_function (cells_of t (goal.at.is_castable_part-returns-else-x-eq21 t c).After-read_cell-y) c.if-y-eq3.true c.if-x-eq21.false

pub is_castable_part-is_castable-requires : goal.is_castable_part-is_castable-requires
is_castable_part-is_castable-requires t c =
    let h = contents (cells_of t (goal.at.is_castable_part-is_castable-requires t c).After-read_cell-y) c.if-y-eq1.false c.if-y-eq3.false c.if-x-eq24.true in
    (omega (arith, h.value_smaller, h.type_smaller, c.decreases), h.both)

pub is_castable_part-returns-then-x-y : goal.is_castable_part-returns-then-x-y
is_castable_part-returns-then-x-y t c =
    casts_record (cells_of t (goal.at.is_castable_part-returns-then-x-y t c).After-read_cell-y) c.if-y-eq1.false c.if-y-eq3.false c.if-x-eq24.true c.if-x-y.true c.is_castable.ensures

pub is_castable_part-returns-else-x-y : goal.is_castable_part-returns-else-x-y
is_castable_part-returns-else-x-y t c =
    casts_not_label (cells_of t (goal.at.is_castable_part-returns-else-x-y t c).After-read_cell-y) c.if-y-eq1.false c.if-y-eq3.false c.if-x-eq24.true c.if-x-y.false

pub is_castable_part-returns-else-x-eq24 : goal.is_castable_part-returns-else-x-eq24
is_castable_part-returns-else-x-eq24 t c =
    casts_no_record (cells_of t (goal.at.is_castable_part-returns-else-x-eq24 t c).After-read_cell-y) c.if-y-eq1.false c.if-y-eq3.false c.if-x-eq24.false
