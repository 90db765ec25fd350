-- A run of cells copied into another buffer, its references moved with it; and where a run begins. Assumes nothing.
use Rattle.std.specs.Prelude.{ℕ, suc, ◌+◌, ◌*◌, ◌-◌, ◌≤◌, ◌<◌, ◌≡◌, Bool, List, Option, length}
use Rattle.std.proofs.Math.Option.{some}
use Rattle.std.proofs.lemmas.List.Edits.{sets}
use Rattle.format.specs.Table.{Sort, Use, unused, plain, refers, Row, row_of}
use Rattle.format.specs.Cell.{Cell, cell_at, cell_bytes}
use Rattle.format.specs.Tree.{Tree}
use Rattle.format.specs.Book.{size_limit}
use Rattle.cells.specs.Held.{label_by_lem}
use Rattle.emission.specs.Emits.{Space, Emits}
use Rattle.emission.specs.Runs.{Run}

-- A field of number n, of a run that goes from cell x to cell m: 0 if unused, its number if plain, else a reference that goes with the run.
abbrev pub renumber : Use → ℕ → ℕ → ℕ → ℕ
renumber unused n x m = 0
renumber plain n x m = n
renumber (refers o) n x m = n - x + m

-- A reference of cell i of a run that begins at x is to a cell of the run before i.
abbrev pub Inside : Use → ℕ → ℕ → ℕ → Type 0
Inside unused x i n = Unit {0}
Inside plain x i n = Unit {0}
Inside (refers o) x i n = (x ≤ n) × (n < i)

-- The cell, of a run that goes from x to m, by the row of its kind.
abbrev pub moved_cell : Cell → Row → ℕ → ℕ → Cell
moved_cell t r x m =
    record {
      kind = t.kind;
      label = label_by_lem r.label t.label;
      a = renumber r.a t.a x m;
      b = renumber r.b t.b x m;
      c = renumber r.c t.c x m;
    }

-- A cell i of a run that begins at x.
pub record CellOfRun (s : List ℕ) (x i : ℕ) : Type 0 where
  pub within : 8 * i + 8 ≤ length s
  pub after : x ≤ i
  pub row : Row
  pub known : row_of (cell_at s i).kind ≡ some row
  pub first : Inside row.a x i (cell_at s i).a
  pub second : Inside row.b x i (cell_at s i).b
  pub third : Inside row.c x i (cell_at s i).c

-- The same, and a buffer in which it has room.
pub record MoveReady (s d : List ℕ) (i x m : ℕ) : Type 0 where
  pub long : 32768 ≤ length d
  pub room : i - x + m < size_limit
  pub cell : CellOfRun s x i

-- The cell stands where the run goes; all other bytes are as they were.
pub record MovesCell (s d e : List ℕ) (i x m : ℕ) : Type 0 where
  pub says : (r : Row) → row_of (cell_at s i).kind ≡ some r → e ≡ sets d (8 * (i - x + m)) (cell_bytes (moved_cell (cell_at s i) r x m))

-- A run from x on before end, and a buffer to emit it into.
pub record RunReady (s d : List ℕ) (x end m : ℕ) : Type 0 where
  pub space : Space d m
  pub marked : Bool
  pub sort : Sort
  pub last : ℕ
  pub tree : Tree
  pub run : Run marked s x (refers sort) last tree end

-- The tree of the run is emitted.
pub record EmitsRun (s d e : List ℕ) (x end m : ℕ) (r : Option ℕ) : Type 0 where
  pub says : (q : Bool) (o : Sort) (n : ℕ) (t : Tree) → Run q s x (refers o) n t end → Emits d e m r t

-- A run that begins at x and ends with the cell i.
pub record EndsAt (q : Bool) (s : List ℕ) (x i : ℕ) : Type 0 where
  pub sort : Sort
  pub tree : Tree
  pub run : Run q s x (refers sort) i tree (suc i)

-- Some run ends with the cell i;
pub record StartReady (s : List ℕ) (i : ℕ) : Type 0 where
  pub marked : Bool
  pub start : ℕ
  pub ends : EndsAt marked s start i

-- r is the cell that it begins at.
pub record StartsAt (s : List ℕ) (i r : ℕ) : Type 0 where
  pub says : (q : Bool) (x : ℕ) → EndsAt q s x i → r ≡ x

-- A run that ends with the cell i, and a buffer to emit it into.
pub record EndReady (s d : List ℕ) (i m : ℕ) : Type 0 where
  pub space : Space d m
  pub from : StartReady s i

-- The tree of that run is emitted.
pub record EmitsEnd (s d e : List ℕ) (i m : ℕ) (r : Option ℕ) : Type 0 where
  pub says : (q : Bool) (o : Sort) (x : ℕ) (t : Tree) → Run q s x (refers o) i t (suc i) → Emits d e m r t
