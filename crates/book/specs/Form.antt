-- The tests 2 to 10 in code: what each answers, by the format's definitions. Assumes nothing.
use Rattle.std.specs.Prelude.{ℕ, ◌+◌, ◌*◌, ◌≤◌, ◌<◌, ◌^◌, min, cond, ◌≡◌, Bool, true, false, ◌&&◌, List, eqb, ltb, length, get_or, Result, Ok, Err}
use Rattle.std.proofs.Math.Option.{Option, none, some}
use Rattle.format.specs.declared.Version.{Version}
use Rattle.format.specs.Version.{version_byte_lem, version_from_lem}
use Rattle.format.specs.Table.{type_sort, term_sort, Use, unused, plain, refers, Row}
use Rattle.format.specs.Cell.{byte, pair}
use Rattle.format.specs.Tree.{cells, tree_at}
use Rattle.format.specs.Book.{Fault, bad_root, bad_size, Finding, every_field, has_sort, cell_fault, cells_finding, form_finding, version_of, root_of, size_limit}
use Rattle.format.specs.declared.Version.TheVariants.{Two}
use Rattle.cells.specs.declared.Cell.{Cell}
use Rattle.cells.specs.declared.Entry.{Entry}
use Rattle.cells.specs.declared.Use as Code
use Rattle.cells.specs.declared.Sort as CodeSort
use Rattle.cells.specs.declared.Sort.TheVariants.{Types, Terms}
use Rattle.cells.specs.Coded.{as_cell, use_of, row_from}
use Rattle.answers.specs.Answer.{refused, fault_number}
use Rattle.answers.specs.Cases.{refusal_answer}
use Rattle.answers.specs.declared.Refusal.{Refusal}
use Rattle.answers.specs.declared.Refusal.TheVariants.{Trailer}
use Rattle.book.specs.declared.Root.{Root}

-- byte 1 is a version
abbrev pub version_ok_lem : ℕ → Bool
version_ok_lem x = eqb x (version_byte_lem (version_from_lem x))

-- 3, asked of the trailer alone
abbrev pub mark_ok_lem : List ℕ → Bool
mark_ok_lem t = eqb (byte t 0) 0xf0 && version_ok_lem (byte t 1) && eqb (pair t 6) 0

-- 3, with the version
abbrev pub version_in : List ℕ → Result Version Refusal
version_in t = cond (mark_ok_lem t) (Ok (version_from_lem (byte t 1))) (Err Trailer)

-- 4, asked of the trailer and the count of cells before it
abbrev pub counted_ok_lem : List ℕ → ℕ → Bool
counted_ok_lem t n = eqb (pair t 2) n && ltb (pair t 4) n

-- Every field of a cell may be asked of, by its use in the entry.
pub record MayAsk (may : Code.Use → ℕ → Type 0) (e : Entry) (t : Cell) : Type 0 where
  pub label : may e.label t.label
  pub a : may e.a t.a
  pub b : may e.b t.b
  pub c : may e.c t.c

-- the answer to a question asked of every field of a cell whose kind is known, by its entry
pub record EveryField (q : Use → ℕ → Bool) (e : Entry) (t : Cell) (r : Bool) : Type 0 where
  pub says : (w : Row) → row_from t.kind e ≡ some w → r ≡ every_field q w (as_cell t)

-- The same, where what is answered of each field is the answer to q.
pub record Asks (answers : Code.Use → ℕ → Bool → Type 0) (e : Entry) (t : Cell) (r : Bool) : Type 0 where
  pub says : (q : Use → ℕ → Bool) → ((u : Code.Use) (x : ℕ) (y : Bool) → x < 2 ^ 64 → answers u x y → y ≡ q (use_of u) x) → EveryField q e t r

-- Fields a, b and c of a cell may be asked of,
pub record MayAskNumbers (may : Code.Use → ℕ → Type 0) (e : Entry) (t : Cell) : Type 0 where
  pub a : may e.a t.a
  pub b : may e.b t.b
  pub c : may e.c t.c

-- and what is answered of each of them is the answer to q.
pub record AsksNumbers (answers : Code.Use → ℕ → Bool → Type 0) (e : Entry) (t : Cell) (r : Bool) : Type 0 where
  pub says : (q : Use → ℕ → Bool) → ((u : Code.Use) (x : ℕ) (y : Bool) → x < 2 ^ 64 → answers u x y → y ≡ q (use_of u) x)
      → r ≡ (q (use_of e.a) t.a && q (use_of e.b) t.b && q (use_of e.c) t.c)

-- x, or a refusal with the number and the cell of what is found.
abbrev pub Finds : {T : Type 0} → T → Result T Refusal → Option Finding → Type 0
Finds x r none = r ≡ Ok x
Finds x r (some f) = (q : Refusal) × (r ≡ Err q) × (refusal_answer q ≡ refused (fault_number f.fault) f.cell)

abbrev pub ChecksAs : Result (Unit {0}) Refusal → Option Finding → Type 0
ChecksAs = Finds tt

-- a fault of cell i, as a finding that names it
abbrev pub at_cell : Option Fault → ℕ → Option Finding
at_cell none i = none
at_cell (some f) i = some (record { fault = f; cell = i })

-- rows 5 to 8 of cell i in a book of version v, asked of the cells alone
pub record CellCheck (v : Version) (s : List ℕ) (i : ℕ) (r : Result (Unit {0}) Refusal) : Type 0 where
  pub says : ChecksAs r (at_cell (cell_fault v s i) i)

-- rows 5 to 8 of the first n cells
pub record CellsCheck (v : Version) (s : List ℕ) (n : ℕ) (r : Result (Unit {0}) Refusal) : Type 0 where
  pub says : ChecksAs r (cells_finding v s n 0)

-- a root among few cells, of which it and the lower ones pass rows 5 to 8 in version 2, as they do where they pass them in version 1
pub record RootReady (s : List ℕ) (root : ℕ) : Type 0 where
  pub within : 8 * root + 8 ≤ length s
  pub few : root < 4096
  pub sound : (i : ℕ) → i ≤ root → cell_fault Two s i ≡ none

-- the unshared size of each of the first n cells, capped one above the limit
pub record SizesUpTo (s z : List ℕ) (n : ℕ) : Type 0 where
  pub sizes : (i : ℕ) → i < n → get_or z i 0 ≡ min 4096 (cells (tree_at s i))

-- cell x is of the sort
abbrev pub is_of_sort_lem : List ℕ → ℕ → CodeSort.Sort → Bool
is_of_sort_lem s x Types = has_sort s type_sort x
is_of_sort_lem s x Terms = has_sort s term_sort x

-- what a field adds to the size of its cell
abbrev pub field_size_lem : List ℕ → Use → ℕ → ℕ
field_size_lem z unused x = 0
field_size_lem z plain x = 0
field_size_lem z (refers o) x = get_or z x 0

-- 9 and 10: whether the root is a term, and whether its size is above the limit
abbrev pub root_fault : Bool → Bool → Option Fault
root_fault false above = some bad_root
root_fault true true = some bad_size
root_fault true false = none

-- rows 9 and 10 of the root i
pub record RootCheck (s : List ℕ) (i : ℕ) (r : Result (Unit {0}) Refusal) : Type 0 where
  pub says : ChecksAs r (at_cell (root_fault (has_sort s term_sort i) (ltb size_limit (cells (tree_at s i)))) i)

-- rows 2 to 10: the root, with the version, or why the book is refused
pub record FormCheck (s : List ℕ) (r : Result Root Refusal) : Type 0 where
  pub says : Finds (record { version = version_of s; cell = root_of s }) r (form_finding s)
