-- A chain of k cells over a leaf fits a book. Assumes nothing.
use Rattle.std.specs.Prelude.{ℕ, ◌≤◌, ◌≡◌, List, length}
use Rattle.cells.specs.Coded.{CellFits}
use Rattle.cells.specs.declared.Cell.{Cell}

-- A leaf, and a number of cells over it that a book has room for;
pub record Leaf (t : Cell) (k : ℕ) : Type 0 where
  pub leaf : CellFits t
  pub few : k ≤ 4094

-- and the bytes of the longest book.
pub record Chain (b : List ℕ) (t : Cell) (k : ℕ) : Type 0 where
  pub fits : Leaf t k
  pub long : length b ≡ 32768
