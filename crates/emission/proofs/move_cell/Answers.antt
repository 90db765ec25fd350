-- `emission::move_cell` meets its contract: the cell that is written is the row's, its references moved. Assumes nothing.
use native.Mathlib.Omega.{arith}
use mathlib.Core.Path.{◌≡◌}
use mathlib.Core.List.{List}
use Prim.Native.Nat.{ℕ}
use Rattle.format.specs.Table.{row_of}
use Rattle.format.specs.Cell.{IsBytes, Cell, cell_at}
use Rattle.cells.specs.Coded.{row_from}
use Rattle.cells.specs.declared.Entry.{Entry}
use Rattle.cells.proofs.Asked.{said}
use Rattle.emission.specs.Copies.{MoveReady}
use Rattle.emission.proofs.Copies.{Moving, renumbers, moves_fit, moves}
use Rattle.emission.proofs.move_cell.Goals as goal

-- what is known once the cell and its row are read
moving : {s d : List ℕ} {i x m : ℕ} {t : Cell} {y : Entry} → MoveReady s d i x m → t ≡ cell_at s i → row_from t.kind y ≡ row_of t.kind → IsBytes s
    → Moving s d i x m t y
moving p e r b = record { ready = p; read = record { cell = e; row = r; bytes = b } }

pub renumber-requires : goal.renumber-requires
renumber-requires c =
    (renumbers (moving c.requires c.read_cell-t.ensures c.entry_of-e.ensures (λ k. (c.type_inv.s k).fits))).0

pub renumber-requires-2 : goal.renumber-requires-2
renumber-requires-2 c =
    (renumbers (moving c.requires c.read_cell-t.ensures c.entry_of-e.ensures (λ k. (c.type_inv.s k).fits))).1

pub renumber-requires-3 : goal.renumber-requires-3
renumber-requires-3 c =
    (renumbers (moving c.requires c.read_cell-t.ensures c.entry_of-e.ensures (λ k. (c.type_inv.s k).fits))).2

pub write_cell-requires : goal.write_cell-requires
write_cell-requires c =
    let j = moving c.requires c.read_cell-t.ensures c.entry_of-e.ensures (λ k. (c.type_inv.s k).fits) in
    (omega (arith, c.requires.long, c.requires.room), moves_fit j c.renumber.ensures c.renumber-2.ensures c.renumber-3.ensures)

pub returns : goal.returns
returns c =
    moves (moving c.requires c.read_cell-t.ensures c.entry_of-e.ensures (λ k. (c.type_inv.s k).fits)) (said c.label_by.ensures)
    c.renumber.ensures c.renumber-2.ensures c.renumber-3.ensures c.write_cell.ensures
