-- `book::cell_size` is the unshared size of a cell, capped. Assumes nothing.
use native.Mathlib.Omega.{arith}
use Rattle.book.proofs.Sizes.{Sized, sized}
use Rattle.book.proofs.cell_size.Goals as goal
use Rattle.book.proofs.cell_size.Goals.{After-entry_of-e}

sizes : (c : After-entry_of-e) → Sized c.args.s.now c.args.z.now c.args.i c.entry_of-e.result c.read_cell-t.result
sizes c = sized (record { is = c.read_cell-t.ensures; row = c.entry_of-e.ensures }) c.requires.i_value c.requires.sizes_up_to

pub field_size-requires : goal.field_size-requires
field_size-requires c = λ u. omega (arith, (sizes (goal.at.field_size-requires c).After-entry_of-e).a_lower u)

pub field_size-requires-2 : goal.field_size-requires-2
field_size-requires-2 c = λ u. omega (arith, (sizes (goal.at.field_size-requires-2 c).After-entry_of-e).b_lower u)

pub field_size-requires-3 : goal.field_size-requires-3
field_size-requires-3 c = λ u. omega (arith, (sizes (goal.at.field_size-requires-3 c).After-entry_of-e).c_lower u)

pub returns : goal.returns
returns c =
    let z = sizes (goal.at.returns c).After-entry_of-e in
    omega
    (arith, z.a_size, c.field_size.ensures, z.b_size, c.field_size-2.ensures, z.c_size, c.field_size-3.ensures, z.whole)
