-- Document 01, "Bytes of a book": the table of kinds, as data, with document 02's kinds 26 and 27. One row a kind, once for all readers; the number's
-- row is by the version of the book. Assumes nothing.
use Rattle.std.specs.Prelude.{ℕ, zero, suc, true, false, cond, List, [], ◌∷◌, eqb}
use Rattle.std.proofs.Math.Option.{Option, none, some}
use Rattle.format.specs.declared.Version.{Version}
use Rattle.format.specs.declared.Version.TheVariants.{One, Two}

-- "a type where a term belongs, or the reverse": what a cell is, and what a reference is to.
pub data Sort : Type 0 where
  type_sort term_sort : Sort

-- What a kind makes of a field: nothing ("Fields not named are zero"), a plain number, or a reference to a cell of a sort.
pub data Use : Type 0 where
  unused plain : Use
  refers : Sort → Use

-- "The table of kinds gives each cell's fields, once for all readers."
pub record Row : Type 0 where
  pub kind : ℕ
  pub sort : Sort
  pub label : Use
  pub a : Use
  pub b : Use
  pub c : Use

-- What a kind makes of field f: 0 is a, 1 is b, 2 is c.
abbrev pub use_in : Row → ℕ → Use
use_in r zero = r.a
use_in r (suc zero) = r.b
use_in r (suc (suc f)) = r.c

-- A row on one line;
abbrev row : ℕ → Sort → Use → Use → Use → Use → Row
row k s l a b c = record { kind = k; sort = s; label = l; a = a; b = b; c = c }

-- a reference to a type,
abbrev types : Use
types = refers type_sort

-- and to a term.
abbrev terms : Use
terms = refers term_sort

-- Field a of a number: "Version 2 in the trailer stores a number in bytes 2–7", and version 1 in "bytes 4–7".
abbrev pub lowest : Version → Use
lowest One = unused
lowest Two = plain

-- kind, sort, label, a, b, c
unfoldable pub table : Version → List Row
table v =
    -- Int, Top, function type, intersection, record type
    row 1 type_sort unused unused unused unused
    ∷ row 2 type_sort unused unused unused unused
    ∷ row 3 type_sort unused types types unused
    ∷ row 4 type_sort unused types types unused
    ∷ row 5 type_sort plain types unused unused
    -- variable, number (b and c hold it, in version 2 a too), top value, annotation, application
    ∷ row 16 term_sort unused plain unused unused
    ∷ row 17 term_sort unused (lowest v) plain plain
    ∷ row 18 term_sort unused unused unused unused
    ∷ row 19 term_sort unused terms types unused
    ∷ row 20 term_sort unused terms terms unused
    -- function, merge, fixpoint, record, field read
    ∷ row 21 term_sort unused terms types types
    ∷ row 22 term_sort unused terms terms unused
    ∷ row 23 term_sort unused terms types unused
    ∷ row 24 term_sort plain terms unused unused
    ∷ row 25 term_sort plain terms unused unused
    -- document 02, (ii): sum, choice
    ∷ row 26 term_sort unused terms terms unused
    ∷ row 27 term_sort unused terms terms terms
    ∷ []

-- Something of every element of a list: of a row, of a sample.
abbrev pub All : {X : Type 0} → (X → Type 0) → List X → Type 0
All P [] = Unit {0}
All P (x ∷ xs) = P x × All P xs

-- The first row of this kind.
unfoldable pub row_in : List Row → ℕ → Option Row
row_in [] k = none
row_in (r ∷ rs) k = elim (eqb k r.kind) [ true ↦ some r | false ↦ row_in rs k ]

-- The row of a kind in a book of this version; none for an unknown kind.
unfoldable pub row_for : Version → ℕ → Option Row
row_for v k = row_in (table v) k

-- Version 2 names all that version 1 does. Its row is the one for sorts, for references, and for cells that are not in a book.
abbrev pub row_of : ℕ → Option Row
row_of = row_for Two

-- "Kinds 21 and 23 bind one variable in a." Of a term of this kind under k binders, the binders over field a.
abbrev pub inside : ℕ → ℕ → ℕ
inside kind k = cond (eqb kind 21) (suc k) (cond (eqb kind 23) (suc k) k)
