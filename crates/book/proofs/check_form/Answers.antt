-- `book::check_form` is rows 2 to 10, in their order. Assumes nothing.
use mathlib.Core.Path.{◌≡◌}
use mathlib.Core.Option.{none}
use Rattle.format.specs.Book.{cells_form}
use Rattle.book.proofs.Parts.{handed, length_bad, trailer_bad, count_bad}
use Rattle.book.proofs.Parts.{Counted, counted, cells_bad, cells_clear, ready, root_bad, root_clear}
use Rattle.book.proofs.check_form.Goals as goal
use Rattle.book.proofs.check_form.Goals.{Else-not-counted_ok, In_ok-check_cells}

-- rows 2 to 4 and rows 2 to 8 passed
passed-4 : (c : Else-not-counted_ok) → Counted c.args.b.now c.in_ok-version.version
passed-4 c =
    counted c.args.b.now c.length_ok.ensures c.if-not-length_ok.false c.in_ok-version.ensures c.counted_ok.ensures c.if-not-counted_ok.false

passed-8 : (c : In_ok-check_cells) → cells_form c.args.b.now ≡ none
passed-8 c = cells_clear (passed-4 (goal.at.In_ok-check_cells c).Else-not-counted_ok) c.in_ok-check_cells.ensures

pub returns-then-not-length_ok : goal.returns-then-not-length_ok
returns-then-not-length_ok c = length_bad c.args.b.now c.length_ok.ensures c.if-not-length_ok.true

pub returns-in_err-version : goal.returns-in_err-version
returns-in_err-version c =
    handed c.from_residual.result c.from_residual.ensures.1 (trailer_bad c.args.b.now c.length_ok.ensures c.if-not-length_ok.false c.in_err-version.ensures)

pub returns-then-not-counted_ok : goal.returns-then-not-counted_ok
returns-then-not-counted_ok c =
    count_bad c.args.b.now c.length_ok.ensures c.if-not-length_ok.false c.in_ok-version.ensures c.counted_ok.ensures c.if-not-counted_ok.true

pub returns-in_err-check_cells : goal.returns-in_err-check_cells
returns-in_err-check_cells c =
    handed c.from_residual-in_err-check_cells.result c.from_residual-in_err-check_cells.ensures.1 (cells_bad (passed-4 (goal.at.returns-in_err-check_cells c).Else-not-counted_ok) c.in_err-check_cells.ensures)

pub check_root-requires : goal.check_root-requires
check_root-requires c =
    let a = goal.at.check_root-requires c in
    ready (passed-4 a.Else-not-counted_ok) (passed-8 a.In_ok-check_cells) c.read_pair-cell.ensures

pub returns-in_err-check_root : goal.returns-in_err-check_root
returns-in_err-check_root c =
    let a = goal.at.returns-in_err-check_root c in
    handed c.from_residual-in_err-check_root.result c.from_residual-in_err-check_root.ensures.1 (root_bad (passed-4 a.Else-not-counted_ok) (passed-8 a.In_ok-check_cells) c.read_pair-cell.ensures c.in_err-check_root.ensures)

pub returns : goal.returns
returns c =
    let a = goal.at.returns c in
    root_clear (passed-4 a.Else-not-counted_ok) (passed-8 a.In_ok-check_cells) c.read_pair-cell.ensures c.in_ok-check_root.ensures
