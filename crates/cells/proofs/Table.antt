-- The code's table of kinds is the format's, with a row of its own for version 1's number: tests over the 256 kinds, which antt computes, and what they say of each kind.
-- Assumes nothing.
use Prim.Native.Nat.{ℕ, zero, suc, ◌<◌}
use native.Mathlib.Decide.{dec_lt}
use native.Mathlib.Omega.{arith}
use mathlib.Core.Path.{◌≡◌, refl}
use mathlib.Core.List.{List, [], ◌∷◌}
use mathlib.Core.Bool.{cond}
use mathlib.Core.Option.{Option, some}
use borrow.Author.Tests.{ne_eqb}
use lib.Dec.{eqb}
use Rattle.std.specs.Prelude.{slice_index_or, Some, None}
use Rattle.format.specs.declared.Version.{Version}
use Rattle.format.specs.declared.Version.TheVariants.{One, Two}
use Rattle.format.specs.Table.{Sort, type_sort, term_sort, Use, unused, plain, refers, Row, table, row_in, row_for, row_of}
use Rattle.cells.specs.Coded.{row_from, place_of}
use Rattle.cells.specs.declared.Entry.{Entry}
use Rattle.cells.specs.declared.Sort as Sorts
use Rattle.cells.specs.declared.Sort.TheVariants.{Types, Terms}
use Rattle.cells.specs.declared.Use as Uses
use Rattle.cells.specs.declared.Use.TheVariants.{Unused, Plain, ToType, ToTerm}

-- A sort, a use and a row as the code has them.
abbrev code_sort : Sort → Sorts.Sort
code_sort type_sort = Types
code_sort term_sort = Terms

abbrev code_use : Use → Uses.Use
code_use unused = Unused
code_use plain = Plain
code_use (refers type_sort) = ToType
code_use (refers term_sort) = ToTerm

abbrev entry : Row → Entry
entry r = record { sort = Some (code_sort r.sort); label = code_use r.label; a = code_use r.a; b = code_use r.b; c = code_use r.c }

abbrev pub entries : List Row → List Entry
entries [] = []
entries (r ∷ rs) = entry r ∷ entries rs

abbrev pub unknown : Entry
unknown = record { sort = None; label = Unused; a = Unused; b = Unused; c = Unused }

-- f of the kinds below n
abbrev run : (ℕ → Option Row) → ℕ → List (Option Row)
run f zero = []
run f (suc n) = f n ∷ run f n

at : (f g : ℕ → Option Row) (n : ℕ) → run f n ≡ run g n → (k : ℕ) → k < n → f k ≡ g k
at f g zero q k h = absurd (omega arith)
at f g (suc n) q k h = elim (dec_lt k n) [ yes p ↦ at f g n (cc) k p | no p ↦ let e : k ≡ n = omega arith in rw e cc ]

abbrev coded : List Entry → Entry → ℕ → Option Row
coded xs d k = row_from k (slice_index_or xs (place_of k) d)

-- the entries xs stand for the rows of all kinds
abbrev pub Right : List Entry → Entry → Type 0
Right xs d = run (coded xs d) 256 ≡ run row_of 256

pub right_at : (xs : List Entry) (d : Entry) → Right xs d → (k x : ℕ) → x ≡ place_of k → k < 256
    → row_from k (slice_index_or xs x d) ≡ row_of k
right_at xs d q k x e h = rw e (at (coded xs d) row_of 256 q k h)

-- version 1 has another row for a number
pub number_of_one : some (record { kind = 17; sort = term_sort; label = unused; a = unused; b = plain; c = plain }) ≡ row_for One 17
unfolding row_for row_in table
number_of_one = refl

abbrev in_one : ℕ → Option Row
in_one k = cond (eqb k 17) (row_for One 17) (row_of k)

one_at : (k : ℕ) → k < 256 → in_one k ≡ row_for One k
unfolding row_for row_in table
one_at k h = at in_one (row_for One) 256 refl k h

pub other_row : (v : Version) (k : ℕ) → (k ≡ 17 → ⊥) → k < 256 → row_of k ≡ row_for v k
other_row One k n h = rw (ne_eqb k 17 n) at (one_at k h)
other_row Two k n h = refl
