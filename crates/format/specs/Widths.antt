-- Document 02, (iv): numbers have one form outside of books, and a book of version 1 has its own; "restamped as version 2 with each number extended by its
-- sign". Assumes nothing.
use Rattle.std.specs.Prelude.{ℕ, zero, suc, ◌/◌, ◌≡◌, ◌≢◌, cond, List, [], ◌++◌, eqb, ltb, length}
use Rattle.format.specs.declared.Version.{Version}
use Rattle.format.specs.declared.Version.TheVariants.{One, Two}
use Rattle.format.specs.Version.{half_of, stored}
use Rattle.format.specs.Cell.{Cell, cell_at, cell_bytes, signed}
use Rattle.format.specs.Book.{count, root_of, trailer}

-- The field above a number of 32 bits whose upper field is c, by its sign.
abbrev pub sign_field_lem : ℕ → ℕ
sign_field_lem c = cond (ltb c 32768) 0 65535

-- "each number extended by its sign": a cell of a version 1 book in version 2.
abbrev pub extended : Cell → Cell
extended t = cond (eqb t.kind 17) (record { kind = t.kind; label = t.label; a = t.b; b = t.c; c = sign_field_lem t.c }) t

-- What that has to be: a number is the same number, and any other cell is the same cell.
pub record Extends (t u : Cell) : Type 0 where
  pub kind : u.kind ≡ t.kind
  pub label : u.label ≡ t.label
  pub number : t.kind ≡ 17 → signed (half_of Two) (stored Two u.a u.b u.c) ≡ signed (half_of One) (stored One t.a t.b t.c)
  pub other : t.kind ≢ 17 → u ≡ t

-- n cells from i on, each as f has it;
unfoldable pub mapped_cells : (Cell → Cell) → List ℕ → ℕ → ℕ → List ℕ
mapped_cells f s zero i = []
mapped_cells f s (suc n) i = cell_bytes (f (cell_at s i)) ++ mapped_cells f s n (suc i)

-- so extended
abbrev pub extended_cells : List ℕ → ℕ → ℕ → List ℕ
extended_cells = mapped_cells extended

-- A version 1 book "restamped as version 2": every number cell, whether the root reaches it or not, and the trailer.
unfoldable pub restamp : List ℕ → List ℕ
restamp s = extended_cells s (count s) 0 ++ trailer Two (count s) (root_of s)

-- A cell of a book of this version as it is outside of books: version 1's numbers extended;
abbrev pub wide_cell : Version → Cell → Cell
wide_cell One t = extended t
wide_cell Two t = t

-- and all the cells of a book, its trailer not among them.
abbrev pub wide_cells : Version → List ℕ → List ℕ
wide_cells One s = extended_cells s (length s / 8) 0
wide_cells Two s = s
