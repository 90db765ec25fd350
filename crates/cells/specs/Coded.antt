-- The code's structs and enums as the format's. Assumes nothing.
use Rattle.std.specs.Prelude.{ℕ, zero, suc, ◌-◌, ◌≡◌, ◌<◌, cond, ltb, Some, None}
use Rattle.std.specs.Prelude as Std
use Rattle.std.proofs.Math.Option.{Option, none, some}
use Rattle.format.specs.Cell as Format
use Rattle.format.specs.Table.{Sort, type_sort, term_sort, Use, unused, plain, refers, Row}
use Rattle.cells.specs.declared.Cell.{Cell}
use Rattle.cells.specs.declared.Entry.{Entry}
use Rattle.cells.specs.declared.Sort as Sorts
use Rattle.cells.specs.declared.Sort.TheVariants.{Types, Terms}
use Rattle.cells.specs.declared.Use as Uses
use Rattle.cells.specs.declared.Use.TheVariants.{Unused, Plain, ToType, ToTerm}

-- The code's cell, as the format's.
abbrev pub as_cell : Cell → Format.Cell
as_cell t = record { kind = t.kind; label = t.label; a = t.a; b = t.b; c = t.c }

-- The fields fit their bytes.
pub record CellFits (t : Cell) : Type 0 where
  pub a : t.a < 65536
  pub b : t.b < 65536
  pub c : t.c < 65536

-- The code's use, as the format's.
abbrev pub use_of : Uses.Use → Use
use_of Unused = unused
use_of Plain = plain
use_of ToType = refers type_sort
use_of ToTerm = refers term_sort

-- The code's sort, as the format's; none of an unknown kind.
abbrev pub sort_of : Std.Option Sorts.Sort → Option Sort
sort_of (Some Types) = some type_sort
sort_of (Some Terms) = some term_sort
sort_of None = none

-- A use as a number: 0 unused, 1 plain, 2 to a type, 3 and more to a term.
abbrev pub numbered : ℕ → Uses.Use
numbered zero = Unused
numbered (suc zero) = Plain
numbered (suc (suc zero)) = ToType
numbered (suc (suc (suc n))) = ToTerm

-- A sort as a number: 2 a type, 3 and more a term; 0 and 1 of an unknown kind.
abbrev pub sort_numbered : ℕ → Std.Option Sorts.Sort
sort_numbered zero = None
sort_numbered (suc zero) = None
sort_numbered (suc (suc zero)) = Some Types
sort_numbered (suc (suc (suc n))) = Some Terms

-- What is asked of u, a value that converts to a use, is asked of each use that it may become;
pub record AskedAs {U : Type 0} (converts : U → Uses.Use → Type 0) (u : U) (asked : Uses.Use → Type 0) : Type 0 where
  pub each : (v : Uses.Use) → converts u v → asked v

-- what is said of it is said of the use that it became.
pub record SaidAs {U : Type 0} (converts : U → Uses.Use → Type 0) (u : U) (said : Uses.Use → Type 0) : Type 0 where
  pub became : Uses.Use
  pub converted : converts u became
  pub says : said became

-- A field of this use is a reference.
abbrev pub Refers : Uses.Use → Type 0
Refers u = (o : Sort) × (use_of u ≡ refers o)

-- An entry of the code's table with its sort, as a row; none of an unknown kind.
abbrev row_with : ℕ → Entry → Option Sort → Option Row
row_with k e none = none
row_with k e (some t) = some (record { kind = k; sort = t; label = use_of e.label; a = use_of e.a; b = use_of e.b; c = use_of e.c })

-- The row that an entry of the code's table stands for.
abbrev pub row_from : ℕ → Entry → Option Row
row_from k e = row_with k e (sort_of e.sort)

-- Where the code's table has a kind: 1 to 5 after the line for the unknown ones, then 16 to 27.
abbrev pub place_of : ℕ → ℕ
place_of k = cond (ltb k 1) 0 (cond (ltb k 6) k (cond (ltb k 16) 0 (cond (ltb k 28) (k - 10) 0)))
