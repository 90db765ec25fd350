-- Runs of cells that move: each cell as it was, its references moved with it; all other cells as they were. Assumes nothing.
use Rattle.std.specs.Prelude.{ℕ, ◌+◌, ◌*◌, ◌-◌, ◌≤◌, ◌<◌, ◌≡◌, List, length}
use Rattle.std.proofs.Math.Option.{some}
use Rattle.format.specs.Table.{Use, unused, plain, refers, Row, row_of}
use Rattle.format.specs.Cell.{Cell, cell_at}
use Rattle.cells.specs.Moves.{moved_field}
use Rattle.loading.specs.Marks.{mark_by}

-- A field of this use has the number m; of one that the row does not name nothing is said.
abbrev pub FieldIs : Use → ℕ → ℕ → Type 0
FieldIs unused n m = Unit {0}
FieldIs plain n m = n ≡ m
FieldIs (refers o) n m = n ≡ m

-- The cell u has the kind, the label and the references of t, of a run that moves from x to y.
pub record Follows (t : Cell) (x y : ℕ) (u : Cell) : Type 0 where
  pub kind : u.kind ≡ t.kind
  pub label : u.label ≡ t.label
  pub first : (r : Row) → row_of t.kind ≡ some r → FieldIs r.a u.a (moved_field x y r.a t.a)
  pub second : (r : Row) → row_of t.kind ≡ some r → FieldIs r.b u.b (moved_field x y r.b t.b)
  pub third : (r : Row) → row_of t.kind ≡ some r → FieldIs r.c u.c (moved_field x y r.c t.c)

-- The cell u follows t, and has its mark.
pub record Rebased (t : Cell) (x y : ℕ) (u : Cell) : Type 0 where
  pub follows : Follows t x y u
  pub marks : t.kind < 16 → u.c ≡ t.c

-- Cell j of v is cell i of w, of a run that moves from x to y.
pub record MovedCell (w v : List ℕ) (x y i j : ℕ) : Type 0 where
  pub within : 8 * j + 8 ≤ length v
  pub is : Rebased (cell_at w i) x y (cell_at v j)

-- The cells of w from x on before e have moved to y in v.
pub record Moved (w v : List ℕ) (x y e : ℕ) : Type 0 where
  pub cell : (i : ℕ) → x ≤ i → i < e → MovedCell w v x y i (i - x + y)

-- Cell j of v is cell i of s, of a run that comes from x in s to y in v; a type has the mark that the cells it refers to give it.
pub record PlacedCell (s v : List ℕ) (x y i j : ℕ) : Type 0 where
  pub within : 8 * j + 8 ≤ length v
  pub follows : Follows (cell_at s i) x y (cell_at v j)
  pub marks : (cell_at s i).kind < 16 → (cell_at v j).c ≡ mark_by v (cell_at v j) (cell_at s i).kind

-- The cells of s from x on before e have come to y in v, types marked.
pub record Placed (s v : List ℕ) (x y e : ℕ) : Type 0 where
  pub cell : (i : ℕ) → x ≤ i → i < e → PlacedCell s v x y i (i - x + y)

-- The cells before p and from q on are the same in both.
pub record Kept (w v : List ℕ) (p q : ℕ) : Type 0 where
  pub long : length v ≡ length w
  pub below : (i : ℕ) → i < p → cell_at v i ≡ cell_at w i
  pub above : (i : ℕ) → q ≤ i → cell_at v i ≡ cell_at w i

-- Cell j alone is written.
pub record Wrote (w v : List ℕ) (j : ℕ) : Type 0 where
  pub long : length v ≡ length w
  pub others : (i : ℕ) → (i ≡ j → ⊥) → cell_at v i ≡ cell_at w i

-- A field of this use and number refers to no cell before x and none from e on.
abbrev pub Between : Use → ℕ → ℕ → ℕ → Type 0
Between unused x e n = Unit {0}
Between plain x e n = Unit {0}
Between (refers o) x e n = (x ≤ n) × (n < e)

-- A cell of a run that begins at x, with references below e; of cell i of the run, e is i.
pub record OfRun (t : Cell) (x e : ℕ) : Type 0 where
  pub row : Row
  pub known : row_of t.kind ≡ some row
  pub first : Between row.a x e t.a
  pub second : Between row.b x e t.b
  pub third : Between row.c x e t.c

-- The n cells from x on are a run's, and move down to y.
pub record ShiftReady (w : List ℕ) (x y n : ℕ) : Type 0 where
  pub long : length w ≡ 65536
  pub inside : x + n ≤ 8192
  pub down : y ≤ x
  pub cells : (i : ℕ) → x ≤ i → i < x + n → OfRun (cell_at w i) x i

-- They have moved; the cells before and behind are as they were.
pub record Shifts (w v : List ℕ) (x y n : ℕ) : Type 0 where
  pub moved : Moved w v x y (x + n)
  pub kept : Kept w v y (x + n)

-- Of these, cell i alone.
pub record ShiftCellReady (w : List ℕ) (x y i : ℕ) : Type 0 where
  pub long : length w ≡ 65536
  pub inside : x + i < 8192
  pub down : y ≤ x
  pub cell : OfRun (cell_at w (x + i)) x (x + i)

-- It has moved; all other cells are as they were.
pub record ShiftsCell (w v : List ℕ) (x y i : ℕ) : Type 0 where
  pub wrote : Wrote w v (y + i)
  pub moved : MovedCell w v x y (x + i) (y + i)

-- The n cells of s from x on are a run's, and come to y in w.
pub record PlaceReady (s w : List ℕ) (x y n : ℕ) : Type 0 where
  pub long : length w ≡ 65536
  pub inside_from : 8 * (x + n) ≤ length s
  pub low_from : x + n ≤ 8192
  pub inside : y + n ≤ 8192
  pub cells : (i : ℕ) → x ≤ i → i < x + n → OfRun (cell_at s i) x i

-- They have come there; the cells before and behind are as they were.
pub record Places (s w v : List ℕ) (x y n : ℕ) : Type 0 where
  pub placed : Placed s v x y (x + n)
  pub kept : Kept w v y (y + n)

-- Of these, cell i alone.
pub record PlaceCellReady (s w : List ℕ) (x y i : ℕ) : Type 0 where
  pub long : length w ≡ 65536
  pub inside_from : 8 * (x + i) + 8 ≤ length s
  pub low_from : x + i < 8192
  pub inside : y + i < 8192
  pub cell : OfRun (cell_at s (x + i)) x (x + i)

-- It has come there; all other cells are as they were.
pub record PlacesCell (s w v : List ℕ) (x y i : ℕ) : Type 0 where
  pub wrote : Wrote w v (y + i)
  pub placed : PlacedCell s v x y (x + i) (y + i)
