-- Opening a cell: depth beyond the cell's number changes nothing, and only the cells up to it matter. Assumes nothing.
use Prim.Native.Nat.{ℕ, zero, suc, ◌<◌, ◌≤◌}
use mathlib.Core.Path.{◌≡◌, refl}
use mathlib.Core.Bool.{Bool, true, false}
use mathlib.Core.Option.{Option, none, some}
use mathlib.Core.List.{List}
use native.Mathlib.Omega.{arith}
use borrow.Author.Tests.{ltb-true, lt-ltb}
use lib.Dec.{ltb}
use Rattle.format.specs.Table.{Sort, Use, unused, plain, refers, Row, row_of}
use Rattle.format.specs.Cell.{Cell, cell_at}
use Rattle.format.specs.Tree.{Tree, field_tree, cell_tree, unshare_within, tree_at}

-- a reference to a lower cell opens that cell
pub field_tree_lower : (g : ℕ → Tree) (i x : ℕ) (s : Sort) → x < i → field_tree g i (refers s) x ≡ g x
unfolding field_tree
field_tree_lower g i x s h = rw (lt-ltb x i h, field_tree)

-- a branch of cell i opens only cells below i
field_tree_same : (g h : ℕ → Tree) (i : ℕ) → ((x : ℕ) → x < i → g x ≡ h x) → (u : Use) (x : ℕ) → field_tree g i u x ≡ field_tree h i u x
unfolding field_tree
field_tree_same g h i e unused x = refl
field_tree_same g h i e plain x = refl
field_tree_same g h i e (refers s) x = go (ltb x i) refl
  where
    go : (t : Bool) → ltb x i ≡ t → field_tree g i (refers s) x ≡ field_tree h i (refers s) x
    go true q = rw (q, field_tree) (e x (ltb-true x i q))
    go false q = rw (q, field_tree)

pub cell_tree_same : (g h : ℕ → Tree) (i : ℕ) → ((x : ℕ) → x < i → g x ≡ h x) → (t : Cell) (r : Option Row) → cell_tree g i t r ≡ cell_tree h i t r
unfolding cell_tree
cell_tree_same g h i e t none = refl
cell_tree_same g h i e t (some r) =
    rw (field_tree_same g h i e r.a t.a, field_tree_same g h i e r.b t.b, field_tree_same g h i e r.c t.c)

-- any two depths beyond the cell's number open the same tree, in bytes that agree on the cells up to it
unshare_same : (s t : List ℕ) (n m i : ℕ) → i < n → i < m → ((j : ℕ) → j ≤ i → cell_at s j ≡ cell_at t j) → unshare_within n s i ≡ unshare_within m t i
unfolding unshare_within
unshare_same s t zero m i p q h = absurd (omega arith)
unshare_same s t (suc n) zero i p q h = absurd (omega arith)
unshare_same s t (suc n) (suc m) i p q h =
    rw (h i (omega arith))
    (cell_tree_same (unshare_within n s) (unshare_within m t) i
    (λ x k. unshare_same s t n m x (omega arith) (omega arith) (λ j l. h j (omega arith)))
    (cell_at t i) (row_of (cell_at t i).kind))

pub unshare_deep : (s : List ℕ) (n i : ℕ) → i < n → unshare_within n s i ≡ tree_at s i
unfolding tree_at
unshare_deep s n i h = unshare_same s s n (suc i) i h (omega arith) (λ j k. refl)

-- the equation of a cell's tree, without depth
pub tree_at_cell : (s : List ℕ) (i : ℕ) → tree_at s i ≡ cell_tree (tree_at s) i (cell_at s i) (row_of (cell_at s i).kind)
unfolding tree_at unshare_within
tree_at_cell s i = cell_tree_same (unshare_within i s) (tree_at s) i (unshare_deep s i) (cell_at s i) (row_of (cell_at s i).kind)

-- bytes that agree on the cells up to i agree on the tree of i
pub tree_at_same : (s t : List ℕ) (i : ℕ) → ((j : ℕ) → j ≤ i → cell_at s j ≡ cell_at t j) → tree_at s i ≡ tree_at t i
unfolding tree_at
tree_at_same s t i h = unshare_same s t (suc i) (suc i) i (omega arith) (omega arith) h
