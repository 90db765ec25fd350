-- Emitting a held tree into another buffer, as far as there is room: children first, root last. Assumes nothing.
use Rattle.std.specs.Prelude.{ℕ, ◌+◌, ◌*◌, ◌-◌, ◌≤◌, ◌<◌, ◌≡◌, false, List, Option, None, Some, length}
use Rattle.std.proofs.lemmas.List.Edits.{sets}
use Rattle.format.specs.Table.{Use, unused, plain, refers}
use Rattle.format.specs.Cell as Format
use Rattle.format.specs.Cell.{cell_bytes}
use Rattle.format.specs.Tree.{Tree, cells, encode}
use Rattle.format.specs.Book.{size_limit}
use Rattle.cells.specs.Held.{label_by_lem, HeldField}
use Rattle.cells.specs.Coded.{CellFits, use_of, Refers}
use Rattle.cells.specs.declared.Cell.{Cell}
use Rattle.cells.specs.declared.Entry.{Entry}
use Rattle.cells.specs.declared.Use as Code

-- A buffer to emit into, of which m cells are used.
pub record Space (d : List ℕ) (m : ℕ) : Type 0 where
  pub long : 32768 ≤ length d
  pub used : m ≤ size_limit

-- The tree stands in the buffer from cell m on, and the answer is the next free cell; or it would pass 4,095 cells, and it is none. In that case nothing
-- is decided of the bytes left.
pub record Emits (d e : List ℕ) (m : ℕ) (r : Option ℕ) (t : Tree) : Type 0 where
  pub fits : m + cells t ≤ size_limit → (r ≡ Some (m + cells t)) × (e ≡ sets d (8 * m) (encode m t))
  pub full : size_limit < m + cells t → r ≡ None

-- A cell to be written, and a buffer for it.
pub record LastReady (d : List ℕ) (t : Cell) : Type 0 where
  pub long : 32768 ≤ length d
  pub fits : CellFits t

-- The cell stands at m, and the answer is the next free cell; or 4,095 cells stand already. In that case nothing is decided of the bytes.
pub record Finishes (d e : List ℕ) (m : ℕ) (t : Format.Cell) (r : Option ℕ) : Type 0 where
  pub fits : m < size_limit → (r ≡ Some (m + 1)) × (e ≡ sets d (8 * m) (cell_bytes t))
  pub full : size_limit ≤ m → r ≡ None

-- What a field of number x holds for a tree that ends before a cell: 0 if unused, its number if plain, else the tree's last cell.
abbrev pub refer_by : Use → ℕ → ℕ → ℕ
refer_by unused x next = 0
refer_by plain x next = x
refer_by (refers o) x next = next - 1

-- A tree that ends within the limit, and has a last cell if it is referred to.
pub record ReferReady (u : Code.Use) (next : ℕ) : Type 0 where
  pub small : next ≤ size_limit
  pub last : Refers u → 1 ≤ next

-- The last cell of a tree of this kind, by its row, where the trees of its fields end before x, v and w.
abbrev pub row_cell : Format.Cell → Entry → ℕ → ℕ → ℕ → Format.Cell
row_cell t y x v w =
    record {
      kind = t.kind;
      label = label_by_lem (use_of y.label) t.label;
      a = refer_by (use_of y.a) t.a x;
      b = refer_by (use_of y.b) t.b v;
      c = refer_by (use_of y.c) t.c w;
    }

-- A buffer for that cell, whose fields fit, and where the trees of its fields end.
pub record RowReady (d : List ℕ) (t : Format.Cell) (y : Entry) (x v w : ℕ) : Type 0 where
  pub long : 32768 ≤ length d
  pub fits : (t.a < 65536) × (t.b < 65536) × (t.c < 65536)
  pub first : ReferReady y.a x
  pub second : ReferReady y.b v
  pub third : ReferReady y.c w

-- A held field of a cell n and a buffer to emit it into.
pub record FieldReady (s d : List ℕ) (u : Code.Use) (x m : ℕ) : Type 0 where
  pub space : Space d m
  pub cell : ℕ
  pub tree : Tree
  pub holds : HeldField false s cell (use_of u) x tree

-- The tree that the field holds, emitted.
pub record EmitsField (s d e : List ℕ) (u : Code.Use) (x m : ℕ) (r : Option ℕ) : Type 0 where
  pub says : (n : ℕ) (t : Tree) → HeldField false s n (use_of u) x t → Emits d e m r t
