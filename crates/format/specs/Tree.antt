-- One uniform tree for types and terms: opening, size and encoding go by kind and field. Assumes nothing.
use Rattle.std.specs.Prelude.{ℕ, zero, suc, ◌+◌, List, [], ◌++◌, true, false, ltb}
use Rattle.std.proofs.Math.Option.{Option, none, some}
use Rattle.format.specs.Table.{Use, unused, plain, refers, Row, row_of}
use Rattle.format.specs.Cell.{Cell, cell_at, cell_bytes}

-- A field that is no reference is its number; one that is a reference is the tree of that cell.
pub data Tree : Type 0 where
  raw : ℕ → Tree
  node : (kind label : ℕ) (a b c : Tree) → Tree

-- the kind of a tree's root; 0 of a number
unfoldable pub kind_in : Tree → ℕ
kind_in (raw x) = 0
kind_in (node k l a b c) = k

-- "The size of a term or type is its count of cells with sharing opened, types included."
unfoldable pub cells : Tree → ℕ
cells (raw x) = 0
cells (node k l a b c) = 1 + (cells a + cells b + cells c)

-- A field of cell i; g opens the cells below i.
unfoldable pub field_tree : (ℕ → Tree) → ℕ → Use → ℕ → Tree
field_tree g i unused x = raw x
field_tree g i plain x = raw x
field_tree g i (refers s) x = elim (ltb x i) [ true ↦ g x | false ↦ raw x ]

-- Cell i, its fields unshared by the row of its kind. Of an unknown kind nothing is unshared.
unfoldable pub cell_tree : (ℕ → Tree) → ℕ → Cell → Option Row → Tree
cell_tree g i t none = node t.kind t.label (raw t.a) (raw t.b) (raw t.c)
cell_tree g i t (some r) = node t.kind t.label (field_tree g i r.a t.a) (field_tree g i r.b t.b) (field_tree g i r.c t.c)

-- Cell i unshared, at most n references deep.
unfoldable pub unshare_within : ℕ → List ℕ → ℕ → Tree
unshare_within zero s i = raw 0
unshare_within (suc n) s i = cell_tree (unshare_within n s) i (cell_at s i) (row_of (cell_at s i).kind)

-- The tree of cell i, document 01's "sharing opened". "References go to lower-numbered cells", so i + 1 is deep enough.
unfoldable pub tree_at : List ℕ → ℕ → Tree
tree_at s i = unshare_within (suc i) s i

-- What stands in a field for a tree that is encoded from cell m on: the number of a plain field, else the tree's last cell.
unfoldable pub refer : ℕ → Tree → ℕ
refer m (raw x) = x
refer m (node k l a b c) = m + (cells a + cells b + cells c)

-- Document 01's "laid down": "children first in field order, shared ones repeated, root last"
unfoldable pub encode : ℕ → Tree → List ℕ
encode m (raw x) = []
encode m (node k l a b c) =
    encode m a
    ++ (encode (m + cells a) b
    ++ (encode (m + cells a + cells b) c
    ++ cell_bytes
    (record { kind = k; label = l; a = refer m a; b = refer (m + cells a) b; c = refer (m + cells a + cells b) c })))
