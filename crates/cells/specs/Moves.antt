-- Cells that move together: a reference from one to another goes with them. Assumes nothing.
use Rattle.std.specs.Prelude.{ℕ, ◌+◌, ◌-◌, ◌≤◌, ◌<◌, ◌≡◌}
use Rattle.std.proofs.Math.Option.{some}
use Rattle.format.specs.Table.{Use, unused, plain, refers, Row, row_of}
use Rattle.format.specs.Cell.{Cell}

-- The number n of a field of this use, where cell x comes to stand at y and those behind it follow.
abbrev pub moved_field : ℕ → ℕ → Use → ℕ → ℕ
moved_field x y unused n = n
moved_field x y plain n = n
moved_field x y (refers o) n = n - x + y

-- A reference is to none of the cells before x; the number fits its bytes then.
abbrev pub FieldMoves : ℕ → ℕ → Use → ℕ → Type 0
FieldMoves x y unused n = n < 65536
FieldMoves x y plain n = n < 65536
FieldMoves x y (refers o) n = (x ≤ n) × (n - x + y < 65536)

-- The cell t with its references moved, by the row of its kind.
abbrev pub moved_cell : ℕ → ℕ → Row → Cell → Cell
moved_cell x y r t =
    record {
      kind = t.kind;
      label = t.label;
      a = moved_field x y r.a t.a;
      b = moved_field x y r.b t.b;
      c = moved_field x y r.c t.c;
    }

-- A cell of a known kind whose fields can move.
pub record CellMoves (x y : ℕ) (t : Cell) : Type 0 where
  pub row : Row
  pub known : row_of t.kind ≡ some row
  pub first : FieldMoves x y row.a t.a
  pub second : FieldMoves x y row.b t.b
  pub third : FieldMoves x y row.c t.c
