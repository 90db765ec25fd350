-- Document 02, (iii): "Compare them in the cells: the test is lent the book, two cells and nothing to write". What it is asked about, and what its
-- answer says, of a book's own bytes and of loaded cells alike. Assumes nothing.
use Rattle.std.specs.Prelude.{ℕ, suc, ◌<◌, ◌≡◌, Bool, true, false, ◌↔◌, List, T}
use Rattle.format.specs.Table.{Sort, Use, unused, plain, refers}
use Rattle.format.specs.Tree.{Tree, tree_at}
use Rattle.format.specs.Book.{count, WellFormed}
use Rattle.cells.specs.Held.{HeldField}

-- "sharing opened": cell i of s, unshared by the rows of the kinds, is the tree; what a row does not name is 0 there. Nothing is asked of sorts and marks,
-- so what stands in field c of a type cell makes no difference.
abbrev pub Unshares : List ℕ → ℕ → Tree → Type 0
Unshares s i t = (o : Sort) × HeldField false s (suc i) (refers o) i t

-- There is such a tree.
abbrev pub Unshared : List ℕ → ℕ → Type 0
Unshared s i = (t : Tree) × Unshares s i t

-- Two cells that may be compared: any two in "every book past 10", whether the root reaches them or not; and any two that are trees.
pub data Comparable (s : List ℕ) (i j : ℕ) : Type 0 where
  in_book : WellFormed s → i < count s → j < count s → Comparable s i j
  in_cells : Unshared s i → Unshared s j → Comparable s i j

-- r is the answer: "it says yes exactly when both, sharing opened, are the same tree". Nothing is promised of the time. The walk visits at most as many
-- pairs of cells as the smaller of the two trees has cells: row 10 bounds that for cells that the root reaches, and no public call asks about
-- others. Two equal chains that double at every cell, and that the root does not reach, can take time exponential in their length; no way without an
-- array is known.
pub record SameTree (s : List ℕ) (i j : ℕ) (r : Bool) : Type 0 where
  pub book : WellFormed s → i < count s → j < count s → T r ↔ (tree_at s i ≡ tree_at s j)
  pub cells : (f g : Tree) → Unshares s i f → Unshares s j g → T r ↔ (f ≡ g)

-- r is whether two fields of one use are the same: unused ones are, plain ones where their numbers are, references where the trees of their cells are.
pub data SameField (s : List ℕ) (x y : ℕ) : Use → Bool → Type 0 where
  same_unused : SameField s x y unused true
  same_plain : {r : Bool} → T r ↔ (x ≡ y) → SameField s x y plain r
  same_cells : {o : Sort} {r : Bool} → SameTree s x y r → SameField s x y (refers o) r
