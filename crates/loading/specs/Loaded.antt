-- A book's cells in a buffer, ready for typing and for the run. Assumes nothing.
use Rattle.std.specs.Prelude.{ℕ, suc, ◌*◌, ◌≤◌, ◌<◌, ◌≡◌, true, List, length}
use Rattle.std.proofs.Math.Option.{none}
use Rattle.format.specs.declared.Version.{Version}
use Rattle.format.specs.Table.{Sort, refers}
use Rattle.format.specs.Cell.{cell_at}
use Rattle.format.specs.Tree.{tree_at}
use Rattle.format.specs.Book.{cell_fault, has_sort, leads_to}
use Rattle.format.specs.Widths.{wide_cells}
use Rattle.cells.specs.Held.{HeldField}

-- The n cells before the trailer of a book of version v, which rows 5 to 8 do not meet, and a buffer of 8,192 cells.
pub record Loadable (b s : List ℕ) (n : ℕ) (v : Version) : Type 0 where
  pub cells : length b ≡ 8 * n
  pub few : n ≤ 4095
  pub sound : (i : ℕ) → i < n → cell_fault v b i ≡ none
  pub long : length s ≡ 65536

-- Each cell holds the tree that it decodes to in b, marked, and leads where it leads there; b is the book, its numbers extended to 48 bits.
pub record Loaded (b s : List ℕ) (n : ℕ) : Type 0 where
  pub long : length s ≡ 65536
  pub held : (i : ℕ) → i < n → (o : Sort) → has_sort b o i ≡ true → HeldField true s (suc i) (refers o) i (tree_at b i)
  pub leads : (i : ℕ) → i < n → (f : ℕ) → leads_to i (cell_at s i) f ≡ leads_to i (cell_at b i) f

-- What loading cell i needs: the cells below it are loaded, and rows 5 to 8 do not meet it.
pub record LoadsNext (b s : List ℕ) (i : ℕ) (v : Version) : Type 0 where
  pub count : ℕ
  pub cells : length b ≡ 8 * count
  pub within : i < count
  pub few : i < 4095
  pub sound : cell_fault v b i ≡ none
  pub done : Loaded (wide_cells v b) s i
