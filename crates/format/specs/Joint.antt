-- Document 02, (vi): "Two books become one: cells of the project, cells of the part with references raised, then a merge of both roots, then a trailer with
-- the higher version and numbers extended as in (iv)." The bytes of the joint, by the table of kinds, and what holds of them. Assumes nothing.
use Rattle.std.specs.Prelude.{ℕ, suc, ◌+◌, ◌*◌, ◌<◌, max, ◌≡◌, true, List, ◌++◌, length}
use Rattle.std.proofs.Math.Option.{Option, none, some}
use Rattle.calculus.specs.Syntax.{merge, size}
use Rattle.format.specs.declared.Version.{Version}
use Rattle.format.specs.declared.Version.TheVariants.{One, Two}
use Rattle.format.specs.Version.{version_byte_lem}
use Rattle.format.specs.Table.{term_sort, Use, unused, plain, refers, Row, row_of}
use Rattle.format.specs.Cell.{IsBytes, Cell, cell_at, cell_bytes}
use Rattle.format.specs.Tree.{cells, tree_at}
use Rattle.format.specs.Book.{count, root_of, version_of, has_sort, trailer, WellFormedCells, root_term}
use Rattle.format.specs.Widths.{restamp, mapped_cells}

-- A field of this use, raised by k if it is a reference: a skip and a number are none.
abbrev pub raised_field : ℕ → Use → ℕ → ℕ
raised_field k unused x = x
raised_field k plain x = x
raised_field k (refers o) x = k + x

-- The same of a cell's fields, by its row. No label is a reference.
abbrev pub raised_by : ℕ → Cell → Option Row → Cell
raised_by k t none = t
raised_by k t (some r) =
    record {
      kind = t.kind;
      label = t.label;
      a = raised_field k r.a t.a;
      b = raised_field k r.b t.b;
      c = raised_field k r.c t.c;
    }

-- "references raised": a cell that comes to stand k cells higher.
abbrev pub raised : ℕ → Cell → Cell
raised k t = raised_by k t (row_of t.kind)

-- "the higher version"
abbrev pub higher : Version → Version → Version
higher One v = v
higher Two v = Two

-- A book of version v in one of version u, which is no lower.
abbrev stamped : Version → Version → List ℕ → List ℕ
stamped One v s = s
stamped Two One s = restamp s
stamped Two Two s = s

-- "numbers extended as in (iv)", where the versions differ: every number cell, whether the root reaches it or not.
abbrev pub in_version : Version → List ℕ → List ℕ
in_version u s = stamped u (version_of s) s

-- A merge of the cells i and j.
abbrev pub merge_cell : ℕ → ℕ → Cell
merge_cell i j = record { kind = 22; label = 0; a = i; b = j; c = 0 }

-- Two books of version u: all cells of the one as they are (raised by nothing), all cells of the other raised by the count of those, the merge, the trailer.
unfoldable pub together : Version → List ℕ → List ℕ → List ℕ
together u p q =
    mapped_cells (raised 0) p (count p) 0
    ++ (mapped_cells (raised (count p)) q (count q) 0
    ++ (cell_bytes (merge_cell (root_of p) (count p + root_of q))
    ++ trailer u (count p + count q + 1) (count p + count q)))

-- The version of the joint,
abbrev pub joint_version : List ℕ → List ℕ → Version
joint_version p q = higher (version_of p) (version_of q)

-- its count of cells,
abbrev pub joint_count : List ℕ → List ℕ → ℕ
joint_count p q = count p + count q + 1

-- and the joint of the project p and the part q.
unfoldable pub joint : List ℕ → List ℕ → List ℕ
joint p q = together (joint_version p q) (in_version (joint_version p q) p) (in_version (joint_version p q) q)

-- What holds of the joint of two well-formed books that together, with the merge, have at most 4,095 cells.
pub record JointOf (p q : List ℕ) : Type 0 where
  pub bytes : IsBytes (joint p q)
  pub long : length (joint p q) ≡ 8 * (joint_count p q + 1)
  -- "the higher version"
  pub version : version_of (joint p q) ≡ joint_version p q
  pub higher_byte : version_byte_lem (version_of (joint p q)) ≡ max (version_byte_lem (version_of p)) (version_byte_lem (version_of q))
  pub counted : count (joint p q) ≡ joint_count p q
  pub rooted : root_of (joint p q) ≡ count p + count q
  -- "cells of the project,
  pub project : (i : ℕ) → i < count p → cell_at (joint p q) i ≡ cell_at (in_version (joint_version p q) p) i
  -- cells of the part with references raised,
  pub part : (i : ℕ) → i < count q → cell_at (joint p q) (count p + i) ≡ raised (count p) (cell_at (in_version (joint_version p q) q) i)
  -- then a merge of both roots"
  pub last : cell_at (joint p q) (count p + count q) ≡ merge_cell (root_of p) (count p + root_of q)
  -- No row from 2 to 9 meets it;
  pub well_formed : WellFormedCells (joint p q)
  pub term : has_sort (joint p q) term_sort (root_of (joint p q)) ≡ true
  -- it decodes to the merge of the two roots;
  pub opens : root_term (joint p q) ≡ merge (root_term p) (root_term q)
  -- and its size, sharing opened, is theirs and one more.
  pub sized : cells (tree_at (joint p q) (root_of (joint p q))) ≡ suc (size (root_term p) + size (root_term q))
