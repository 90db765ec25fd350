-- `book::check_cell` is rows 5 to 8 of a cell, in their order. Assumes nothing.
use mathlib.Core.Path.{◌≡◌, refl}
use mathlib.Core.Bool.{true}
use Rattle.std.proofs.Common.{rules}
use Rattle.std.specs.Prelude.{is_some}
use Rattle.format.specs.Book.{unnamed_ok_lem, reference_ok_lem, sort_ok_lem}
use Rattle.book.specs.Form.{EveryField}
use Rattle.book.proofs.Cells.{kind_unknown, not_zero, not_lower, not_sorted, all_clear, within}
use Rattle.book.proofs.Fields.{Read, by_numbers}
use Rattle.book.proofs.check_cell.Goals as goal
use Rattle.book.proofs.check_cell.Goals.{After-entry_for-e, Else-is_none, After-every_field, After-every_number, After-every_number-2}

read : (c : After-entry_for-e) → Read c.args.version c.args.s.now c.args.i c.entry_for-e.result c.read_cell-t.result
read c = record { is = c.read_cell-t.ensures; row = c.entry_for-e.ensures }

known : (c : Else-is_none) → is_some c.entry_for-e.result.sort ≡ true
known c = rw c.if-is_none.false at c.is_none.ensures

-- 6, 7 and 8, of every field
row_6 : (c : After-every_field) → EveryField unnamed_ok_lem c.entry_for-e.result c.read_cell-t.result c.every_field.result
row_6 c = c.every_field.ensures.says unnamed_ok_lem (λ u x y l p. p.1)

row_7 : (c : After-every_number) → EveryField (reference_ok_lem c.args.i) c.entry_for-e.result c.read_cell-t.result c.every_number.result
row_7 c = by_numbers (record { is = c.read_cell-t.ensures; row = c.entry_for-e.ensures }) (λ x. refl) (λ x. refl) (c.every_number.ensures.says (reference_ok_lem c.args.i) (λ u x y l p. search rules))

row_8 : (c : After-every_number-2) → EveryField (sort_ok_lem c.args.s.now) c.entry_for-e.result c.read_cell-t.result c.every_number-2.result
row_8 c = by_numbers (record { is = c.read_cell-t.ensures; row = c.entry_for-e.ensures }) (λ x. refl) (λ x. refl) (c.every_number-2.ensures.says (sort_ok_lem c.args.s.now) (λ u x y l p. search rules))

pub returns-then-is_none : goal.returns-then-is_none
returns-then-is_none c = kind_unknown (read (goal.at.returns-then-is_none c).After-entry_for-e) (rw c.if-is_none.true at c.is_none.ensures)

pub returns-then-not-every_field : goal.returns-then-not-every_field
returns-then-not-every_field c =
    let a = goal.at.returns-then-not-every_field c in
    not_zero (read a.After-entry_for-e) (known a.Else-is_none) (row_6 a.After-every_field) c.if-not-every_field.true

pub returns-then-not-every_number : goal.returns-then-not-every_number
returns-then-not-every_number c =
    let a = goal.at.returns-then-not-every_number c in
    not_lower (read a.After-entry_for-e) (known a.Else-is_none) (row_6 a.After-every_field) c.if-not-every_field.false (row_7 a.After-every_number)
    c.if-not-every_number.true

pub every_number-requires-2 : goal.every_number-requires-2
every_number-requires-2 c =
    let a = goal.at.every_number-requires-2 c in
    let m = within (read a.After-entry_for-e) (known a.Else-is_none) c.requires (row_7 a.After-every_number) c.if-not-every_number.false in
    record { a = search rules; b = λ _ _ _ _ _ _ _. m.b; c = λ _ _ _ _ _ _ _. m.c }

pub returns-then-not-every_number-2 : goal.returns-then-not-every_number-2
returns-then-not-every_number-2 c =
    let a = goal.at.returns-then-not-every_number-2 c in
    not_sorted (read a.After-entry_for-e) (known a.Else-is_none) (row_6 a.After-every_field) c.if-not-every_field.false (row_7 a.After-every_number)
    c.if-not-every_number.false (row_8 a.After-every_number-2) c.if-not-every_number-2.true

pub returns : goal.returns
returns c =
    let a = goal.at.returns c in
    all_clear (read a.After-entry_for-e) (known a.Else-is_none) (row_6 a.After-every_field) c.if-not-every_field.false (row_7 a.After-every_number)
    c.if-not-every_number.false (row_8 a.After-every_number-2) c.if-not-every_number-2.false
