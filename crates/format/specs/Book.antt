-- Document 01, "Bytes of a book" and rows 2 to 10 of "Where a book is turned back": the trailer, the tests in their order, what a book
-- decodes to, and a tree encoded as a book of its own. Assumes nothing.
use Rattle.std.specs.Prelude.{ℕ, zero, suc, ◌+◌, ◌*◌, ◌-◌, ◌/◌, ◌%◌, ◌≤◌, ◌<◌, ◌≡◌, Bool, true, false, not, cond, ◌&&◌, List, [], ◌∷◌, ◌++◌, eqb, ltb, length}
use Rattle.std.proofs.Math.Option.{Option, none, some}
use Rattle.calculus.specs.Syntax.{Ty, Term}
use Rattle.format.specs.declared.Version.{Version}
use Rattle.format.specs.Version.{version_byte_lem, version_from_lem}
use Rattle.format.specs.Table.{Sort, type_sort, term_sort, Use, unused, plain, refers, Row, row_for, row_of, use_in}
use Rattle.format.specs.Cell.{byte, pair, Cell, cell_at}
use Rattle.format.specs.Tree.{Tree, cells, tree_at, encode}
use Rattle.format.specs.Terms.{from_type, from_term_in, to_term_in}

-- "The limit is 4,095."
abbrev pub size_limit : ℕ
size_limit = 4095

-- Rows 2 to 10.
pub data Fault : Type 0 where
  bad_length bad_trailer bad_count bad_kind bad_unnamed bad_reference bad_sort bad_root bad_size : Fault

-- A book of length n has n / 8 - 1 cells and then its trailer.
abbrev pub count : List ℕ → ℕ
count s = length s / 8 - 1

-- Where the trailer begins.
abbrev pub trailer_at : List ℕ → ℕ
trailer_at s = 8 * count s

-- "bytes 4–5 the root cell"
abbrev pub root_of : List ℕ → ℕ
root_of s = pair s (trailer_at s + 4)

-- "byte 1 the version": of a book past row 3, 1 or 2.
abbrev pub version_of : List ℕ → Version
version_of s = version_from_lem (byte s (trailer_at s + 1))

-- 2: "below 16, above 32,768, or not a multiple of 8"
abbrev pub length_ok_lem : List ℕ → Bool
length_ok_lem s = not (ltb (length s) 16) && not (ltb 32768 (length s)) && eqb (length s % 8) 0

-- 3: "wrong byte 0, 1, 6 or 7"; a version other than 1 and 2 is wrong.
abbrev pub trailer_ok : List ℕ → Bool
trailer_ok s = eqb (byte s (trailer_at s)) 0xf0 && eqb (byte s (trailer_at s + 1)) (version_byte_lem (version_of s)) && eqb (pair s (trailer_at s + 6)) 0

-- 4: "count is not one less than an eighth of the length, or root not below count"
abbrev pub count_ok : List ℕ → Bool
count_ok s = eqb (pair s (trailer_at s + 2)) (count s) && ltb (root_of s) (count s)

-- 6, 7 and 8 ask of each field by its use. "an unnamed field is not zero"
abbrev pub unnamed_ok_lem : Use → ℕ → Bool
unnamed_ok_lem unused x = eqb x 0
unnamed_ok_lem plain x = true
unnamed_ok_lem (refers s) x = true

-- "a reference not lower than its cell"
abbrev pub reference_ok_lem : ℕ → Use → ℕ → Bool
reference_ok_lem i unused x = true
reference_ok_lem i plain x = true
reference_ok_lem i (refers s) x = ltb x i

-- A kind with this row is of the sort; an unknown kind is of none.
abbrev pub sort_is : Sort → Option Row → Bool
sort_is s none = false
sort_is type_sort (some r) = elim r.sort [ type_sort ↦ true | term_sort ↦ false ]
sort_is term_sort (some r) = elim r.sort [ type_sort ↦ false | term_sort ↦ true ]

-- Cell i is of the sort.
abbrev pub has_sort : List ℕ → Sort → ℕ → Bool
has_sort s t i = sort_is t (row_of (cell_at s i).kind)

-- "a type where a term belongs, or the reverse"
abbrev pub sort_ok_lem : List ℕ → Use → ℕ → Bool
sort_ok_lem s unused x = true
sort_ok_lem s plain x = true
sort_ok_lem s (refers t) x = has_sort s t x

-- a question asked of every field of a cell
abbrev pub every_field : (Use → ℕ → Bool) → Row → Cell → Bool
every_field q r t = q r.label t.label && q r.a t.a && q r.b t.b && q r.c t.c

-- the first of a list of tests that fails
unfoldable pub first_bad : List (Bool × Fault) → Option Fault
first_bad [] = none
first_bad (t ∷ ts) = elim t.0 [ true ↦ first_bad ts | false ↦ some t.1 ]

-- 5 to 8 of one cell
unfoldable pub row_fault : List ℕ → ℕ → Cell → Option Row → Option Fault
row_fault s i t none = some bad_kind
row_fault s i t (some r) =
    first_bad
    ((every_field unnamed_ok_lem r t, bad_unnamed)
    ∷ (every_field (reference_ok_lem i) r t, bad_reference)
    ∷ (every_field (sort_ok_lem s) r t, bad_sort)
    ∷ [])

-- The first of rows 5 to 8 that cell i meets in a book of this version.
unfoldable pub cell_fault : Version → List ℕ → ℕ → Option Fault
cell_fault v s i = row_fault s i (cell_at s i) (row_for v (cell_at s i).kind)

-- A fault and the cell that it names.
pub record Finding : Type 0 where
  pub fault : Fault
  pub cell : ℕ

-- The fault f, found at cell i.
abbrev finding : Fault → ℕ → Option Finding
finding f i = some (record { fault = f; cell = i })

-- "cells ascending, each cell completely": the first finding among n cells from i on
unfoldable pub cells_finding : Version → List ℕ → ℕ → ℕ → Option Finding
cells_finding v s zero i = none
cells_finding v s (suc n) i = elim (cell_fault v s i) [ none ↦ cells_finding v s n (suc i) | some f ↦ finding f i ]

-- 9: "the root is a type"; 10: "size above 4,095"
unfoldable pub root_finding : List ℕ → Option Finding
root_finding s =
    elim (has_sort s term_sort (root_of s)) [
      | true ↦ elim (ltb size_limit (cells (tree_at s (root_of s)))) [ true ↦ finding bad_size (root_of s) | false ↦ none ]
      | false ↦ finding bad_root (root_of s)
    ]

-- Rows 2 to 8: "Rows are tested downward, cells ascending, each cell completely. .. The first finding stands."
unfoldable pub cells_form : List ℕ → Option Finding
cells_form s =
    elim (length_ok_lem s) [
      | false ↦ finding bad_length 0
      | true ↦ elim (trailer_ok s) [
        | false ↦ finding bad_trailer 0
        | true ↦ elim (count_ok s) [ false ↦ finding bad_count 0 | true ↦ cells_finding (version_of s) s (count s) 0 ]
      ]
    ]

-- Rows 2 to 10.
unfoldable pub form_finding : List ℕ → Option Finding
form_finding s = elim (cells_form s) [ none ↦ root_finding s | some f ↦ some f ]

-- As statements: no row from 2 to 8 meets the book;
pub record WellFormedCells (s : List ℕ) : Type 0 where
  pub long : 16 ≤ length s
  pub short : length s ≤ 32768
  pub whole : length s % 8 ≡ 0
  pub mark : byte s (trailer_at s) ≡ 0xf0
  pub version : byte s (trailer_at s + 1) ≡ version_byte_lem (version_of s)
  pub zeros : pair s (trailer_at s + 6) ≡ 0
  pub counted : pair s (trailer_at s + 2) ≡ count s
  pub rooted : root_of s < count s
  pub sound : (i : ℕ) → i < count s → cell_fault (version_of s) s i ≡ none

-- and no row from 2 to 10: the root is a term of at most 4,095 cells, unshared.
pub record WellFormed (s : List ℕ) : Type 0 where
  pub formed : WellFormedCells s
  pub term : has_sort s term_sort (root_of s) ≡ true
  pub small : cells (tree_at s (root_of s)) ≤ size_limit

-- Field f of a cell: 0 for a, 1 for b, 2 for c.
abbrev pub field_in : Cell → ℕ → ℕ
field_in t zero = t.a
field_in t (suc zero) = t.b
field_in t (suc (suc f)) = t.c

-- The cell below i that a field of this use and number refers to.
abbrev pub lower_of : ℕ → Use → ℕ → Option ℕ
lower_of i unused x = none
lower_of i plain x = none
lower_of i (refers t) x = cond (ltb x i) (some x) none

-- The same of field f of t, by the row of its kind.
abbrev pub leads_by : ℕ → Cell → Option Row → ℕ → Option ℕ
leads_by i t none f = none
leads_by i t (some r) f = lower_of i (use_in r f) (field_in t f)

-- "References go to lower-numbered cells": where field f of t, as cell i, leads.
abbrev pub leads_to : ℕ → Cell → ℕ → Option ℕ
leads_to i t f = leads_by i t (row_of t.kind) f

-- The cell at the end of a path from cell i, field by field. A field that leads to no lower cell ends the path.
unfoldable pub follow : List ℕ → ℕ → List ℕ → ℕ
follow s i [] = i
follow s i (f ∷ p) = elim (leads_to i (cell_at s i) f) [ none ↦ i | some j ↦ follow s j p ]

-- The root of a book, unshared: document 01's "sharing opened".
unfoldable pub root_term : List ℕ → Term
root_term s = to_term_in (version_of s) (tree_at s (root_of s))

-- "Trailer: byte 0 is F0 (hex); byte 1 the version, ..; bytes 2–3 the cell count; bytes 4–5 the root cell; bytes 6–7 zero."
unfoldable pub trailer : Version → ℕ → ℕ → List ℕ
trailer v n r = 0xf0 ∷ version_byte_lem v ∷ n % 256 ∷ n / 256 ∷ r % 256 ∷ r / 256 ∷ 0 ∷ 0 ∷ []

-- "A term or type is laid down as a .. book of its own, trailer included"; "A laid-down book has the version it came from."
unfoldable pub book : Version → Tree → List ℕ
book v t = encode 0 t ++ trailer v (cells t) (cells t - 1)

-- A type encoded,
abbrev pub type_book : Version → Ty → List ℕ
type_book v A = book v (from_type A)

-- and a term.
abbrev pub term_book : Version → Term → List ℕ
term_book v e = book v (from_term_in v e)
