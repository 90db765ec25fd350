-- `equality::same_tree` and `same_field` meet their contracts, over kind and field. The measures: 2 i + 1 for cell i, one more for a field that
-- refers to it, and 0 for a field that refers to nothing. Assumes nothing.
use Prim.Native.Nat.{ℕ}
use mathlib.Core.Path.{sym, ◌∙◌}
use Rattle.cells.specs.Coded.{as_cell}
use Rattle.cells.proofs.Asked.{said}
use Rattle.cells.proofs.Rows.{cell_less}
use Rattle.equality.specs.Trees.{same_unused}
use Rattle.equality.proofs.Trees.{unshared, within, one_cell, other_kinds, refers_else, plain_same, cells_same, Alike, parts, other_labels, no_first, no_second, by_third}
use Rattle.equality.proofs.+same_trees.Goals as goal
use Rattle.equality.proofs.+same_trees.Goals.{same_tree-After-entry_of-e}

-- what is known once the row is read
alike : (t : ℕ) (c : same_tree-After-entry_of-e t) → Alike c.args.s.now c.args.i c.args.j (as_cell c.read_cell-x.result) (as_cell c.read_cell-y.result) c.entry_of-e.result
alike t c = record { first = c.read_cell-x.ensures; second = c.read_cell-y.ensures; kinds = c.if-x-y.false; row = c.entry_of-e.ensures }

pub same_field-returns-in-Unused : goal.same_field-returns-in-Unused
same_field-returns-in-Unused t c = rw c.in-Unused.is same_unused

pub same_field-returns-in-Plain : goal.same_field-returns-in-Plain
same_field-returns-in-Plain t c = rw c.in-Plain.is plain_same

pub same_field-same_tree-requires : goal.same_field-same_tree-requires
same_field-same_tree-requires t c =
    let r = refers_else c.args.u c.in_default.not-Unused c.in_default.not-Plain in
    (cell_less c.args.u c.args.x r c.decreases, c.requires r)

pub same_field-returns-in_default : goal.same_field-returns-in_default
same_field-returns-in_default t c = cells_same c.args.u (refers_else c.args.u c.in_default.not-Unused c.in_default.not-Plain) c.same_tree.ensures

pub same_tree-returns-then-i-j : goal.same_tree-returns-then-i-j
same_tree-returns-then-i-j t c = one_cell c.if-i-j.true

pub same_tree-read_cell-x-requires : goal.same_tree-read_cell-x-requires
same_tree-read_cell-x-requires t c = within (unshared c.requires).0

pub same_tree-read_cell-y-requires : goal.same_tree-read_cell-y-requires
same_tree-read_cell-y-requires t c = within (unshared c.requires).1

pub same_tree-returns-then-x-y : goal.same_tree-returns-then-x-y
same_tree-returns-then-x-y t c = other_kinds c.read_cell-x.ensures c.read_cell-y.ensures c.if-x-y.true

pub same_tree-returns-then-label_by : goal.same_tree-returns-then-label_by
same_tree-returns-then-label_by t c = other_labels (alike t (goal.at.same_tree-returns-then-label_by t c).After-entry_of-e) (λ e. c.if-label_by.true (said c.label_by.ensures ∙ e ∙ sym (said c.label_by-2.ensures)))

pub same_tree-same_field-requires : goal.same_tree-same_field-requires
same_tree-same_field-requires t c = (parts (alike t (goal.at.same_tree-same_field-requires t c).After-entry_of-e) c.requires c.decreases).0

pub same_tree-same_field-requires-then-same_field : goal.same_tree-same_field-requires-then-same_field
same_tree-same_field-requires-then-same_field t c = (parts (alike t (goal.at.same_tree-same_field-requires-then-same_field t c).After-entry_of-e) c.requires c.decreases).1.0

pub same_tree-same_field-requires-then-same_field-2 : goal.same_tree-same_field-requires-then-same_field-2
same_tree-same_field-requires-then-same_field-2 t c = (parts (alike t (goal.at.same_tree-same_field-requires-then-same_field-2 t c).After-entry_of-e) c.requires c.decreases).1.1

pub same_tree-returns-then-same_field-2 : goal.same_tree-returns-then-same_field-2
same_tree-returns-then-same_field-2 t c = by_third (alike t (goal.at.same_tree-returns-then-same_field-2 t c).After-entry_of-e) c.same_field.ensures c.if-same_field.true c.same_field-then-same_field.ensures (sym (said c.label_by.ensures) ∙ c.if-label_by.false ∙ said c.label_by-2.ensures) c.if-same_field-2.true c.same_field-then-same_field-2.ensures

pub same_tree-returns-else-same_field-2 : goal.same_tree-returns-else-same_field-2
same_tree-returns-else-same_field-2 t c = no_second (alike t (goal.at.same_tree-returns-else-same_field-2 t c).After-entry_of-e) c.same_field.ensures c.if-same_field.true c.same_field-then-same_field.ensures c.if-same_field-2.false

pub same_tree-returns-else-same_field : goal.same_tree-returns-else-same_field
same_tree-returns-else-same_field t c = no_first (alike t (goal.at.same_tree-returns-else-same_field t c).After-entry_of-e) c.same_field.ensures c.if-same_field.false
