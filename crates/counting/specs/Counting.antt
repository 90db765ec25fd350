-- Document 02, (ix): "Without running it, say how many steps it takes: its count of annotations, applications, field reads and sums, with sharing opened." What
-- the walk over a book's cells is asked about, and what it answers. Assumes nothing.
use Rattle.std.specs.Prelude.{Option, Some, None, ℕ, ◌≤◌, ◌<◌, ◌≡◌, true, cond, ◌||◌, List, eqb}
use Rattle.calculus.specs.Syntax.{Term}
use Rattle.calculus.specs.Sheet.{is_sheet, count_steps}
use Rattle.format.specs.Table.{type_sort, term_sort, Use, unused, plain, refers}
use Rattle.format.specs.Tree.{cells, tree_at}
use Rattle.format.specs.Terms.{to_term_in}
use Rattle.format.specs.Book.{size_limit, count, has_sort, version_of, WellFormed}
use Rattle.cells.specs.Coded.{use_of}
use Rattle.cells.specs.declared.Use as Code
use Rattle.cells.specs.declared.Use.TheVariants.{ToTerm}

-- The count of a sheet; of any other term, that it is none.
abbrev pub counted : Term → Option ℕ
counted e = cond (is_sheet e) (Some (count_steps e)) None

-- By the kind alone: "no variable, function, fixpoint or choice"; "annotations, applications, field reads and sums" count one.
abbrev pub own_steps_lem : ℕ → Option ℕ
own_steps_lem k =
    cond (eqb k 16 || (eqb k 21 || (eqb k 23 || eqb k 27))) None (cond (eqb k 19 || (eqb k 20 || (eqb k 25 || eqb k 26))) (Some 1) (Some 0))

-- A field of this use, and the term of its cell: what is no term counts nothing.
abbrev pub counted_in : Use → Term → Option ℕ
counted_in unused e = Some 0
counted_in plain e = Some 0
counted_in (refers type_sort) e = Some 0
counted_in (refers term_sort) e = counted e

-- A field that refers to a term is asked about in a book past row 10: cell x is a term of at most 4,095 cells, unshared.
pub record CountableCell (b : List ℕ) (x : ℕ) : Type 0 where
  pub low : x < count b
  pub term : has_sort b term_sort x ≡ true
  pub small : cells (tree_at b x) ≤ size_limit

-- A field of use u and number x.
pub record Countable (b : List ℕ) (u : Code.Use) (x : ℕ) : Type 0 where
  pub formed : WellFormed b
  pub cell : u ≡ ToTerm → CountableCell b x

-- r is what it counts, no more than it has cells.
pub record Counts (b : List ℕ) (u : Code.Use) (x : ℕ) (r : Option ℕ) : Type 0 where
  pub is : r ≡ counted_in (use_of u) (to_term_in (version_of b) (tree_at b x))
  pub small : (n : ℕ) → r ≡ Some n → u ≡ ToTerm → n ≤ cells (tree_at b x)
