-- `emission::start_of` meets its contract: all runs that it passes begin with the same cell. Assumes nothing.
use mathlib.Core.Path.{◌≡◌}
use mathlib.Core.List.{List}
use Prim.Native.Nat.{ℕ}
use Rattle.format.specs.Table.{row_of}
use Rattle.format.specs.Cell.{IsBytes, Cell, cell_at}
use Rattle.cells.specs.Coded.{row_from}
use Rattle.cells.specs.declared.Entry.{Entry}
use Rattle.emission.specs.Copies.{StartReady}
use Rattle.emission.proofs.Copies.{Follows, follows_within, Following, started, goes_down}
use Rattle.emission.proofs.Emitting.{a_reference}
use Rattle.emission.proofs.start_of.Goals as goal

-- what is known once the cell and its row are read
following : {s : List ℕ} {at i : ℕ} {t : Cell} {y : Entry} → StartReady s at → Follows s at i → t ≡ cell_at s i → row_from t.kind y ≡ row_of t.kind
    → IsBytes s → Following s at i t y
following p f e r b = record { ready = p; follows = f; read = record { cell = e; row = r; bytes = b } }

pub read_cell-t-requires : goal.read_cell-t-requires
read_cell-t-requires c = follows_within c.requires c.loop-i.invariant

pub returns-in-Unused : goal.returns-in-Unused
returns-in-Unused c =
    started (following c.requires c.loop-i.invariant c.read_cell-t.ensures c.entry_of-e.ensures (λ k. (c.type_inv.s k).fits)) c.in-Unused.is

pub loop-i-smaller : goal.loop-i-smaller
loop-i-smaller c =
    (goes_down (following c.requires c.loop-i.invariant c.read_cell-t.ensures c.entry_of-e.ensures (λ k. (c.type_inv.s k).fits)) (a_reference c.in-ToType.is)).1

pub loop-i-preserved : goal.loop-i-preserved
loop-i-preserved c =
    (goes_down (following c.requires c.loop-i.invariant c.read_cell-t.ensures c.entry_of-e.ensures (λ k. (c.type_inv.s k).fits)) (a_reference c.in-ToType.is)).0
