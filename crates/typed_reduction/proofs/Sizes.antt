-- The size of what a run holds, as a function of the cells alone: the measure by which reading a value under a type recurses ("recurses over type
-- and value, their sizes falling"). Assumes nothing.
use Prim.Native.Nat.{ℕ, suc, ◌≤◌, ◌<◌}
use mathlib.Core.Path.{◌≡◌, refl, sym, ap, ◌∙◌}
use mathlib.Core.Bool.{Bool}
use mathlib.Core.List.{List}
use native.Mathlib.Omega.{arith}
use Rattle.calculus.specs.Syntax.{Ty, inter, field, size_type, Term, merge, rcd, size}
use Rattle.format.specs.declared.Version.TheVariants.{Two}
use Rattle.format.specs.Table.{type_sort, term_sort, Use}
use Rattle.format.specs.Tree.{Tree, cells, field_tree, cell_tree, tree_at}
use Rattle.format.proofs.Unsharing.{field_tree_lower, tree_at_cell}
use Rattle.format.proofs.Trees.{type_cells, term_cells}
use Rattle.emission.specs.Runs.{Run, r_unused, r_plain, r_refers, RunsType, RunsTerm}
use Rattle.emission.proofs.Runs.{grows}

unfoldable pub size_at : List ℕ → ℕ → ℕ
size_at s i = cells (tree_at s i)

-- by kind and field: a run has as many cells as its field decodes to
unshares : {q : Bool} {s : List ℕ} {x n e m : ℕ} {u : Use} {t : Tree} → e ≤ m → Run q s x u n t e → cells (field_tree (tree_at s) m u n) ≡ cells t
unfolding cells field_tree cell_tree
unshares b r_unused = refl
unshares b r_plain = refl
unshares {s = s} {m = m} b (r_refers {i = i} {o = o} p k l f g h z w) =
    rw (field_tree_lower (tree_at s) m i o (omega (arith, z)), tree_at_cell s i, p.is, k)
    (omega (arith, unshares {m = i} (omega (arith, grows g, grows h)) f, unshares {m = i} (omega (arith, grows h)) g, unshares {m = i} (omega arith) h))

pub type_size : {s : List ℕ} {i : ℕ} {A : Ty} → RunsType s i A → size_at s i ≡ size_type A
unfolding size_at
type_size {s} {i} {A} h = ap cells (sym (field_tree_lower (tree_at s) (suc i) i type_sort (omega arith))) ∙ unshares {m = suc i} (omega arith) h.run ∙ type_cells A

pub term_size : {s : List ℕ} {i : ℕ} {e : Term} → RunsTerm s i e → size_at s i ≡ size e
unfolding size_at
term_size {s} {i} {e} h = ap cells (sym (field_tree_lower (tree_at s) (suc i) i term_sort (omega arith))) ∙ unshares {m = suc i} (omega arith) h.run ∙ term_cells Two e

-- ---- what is read further is smaller

module _ {s : List ℕ} {i p : ℕ} where
  pub half_smaller : {q : ℕ} {A B C : Ty} → RunsType s i C → C ≡ inter A B → RunsType s p A → RunsType s q B → (size_at s p < size_at s i) × (size_at s q < size_at s i)
  unfolding size_type
  half_smaller h e f g =
      let z = type_size h ∙ ap size_type e in
      (omega (arith, z, type_size f, type_size g), omega (arith, z, type_size f, type_size g))

  pub field_smaller : {l : ℕ} {A C : Ty} → RunsType s i C → C ≡ field l A → RunsType s p A → size_at s p < size_at s i
  unfolding size_type
  field_smaller h e f = omega (arith, type_size h ∙ ap size_type e, type_size f)

  pub merge_smaller : {q : ℕ} {f g e : Term} → RunsTerm s i e → e ≡ merge f g → RunsTerm s p f → RunsTerm s q g → (size_at s p < size_at s i) × (size_at s q < size_at s i)
  unfolding size
  merge_smaller h e f g =
      let z = term_size h ∙ ap size e in
      (omega (arith, z, term_size f, term_size g), omega (arith, z, term_size f, term_size g))

  pub record_smaller : {l : ℕ} {f e : Term} → RunsTerm s i e → e ≡ rcd l f → RunsTerm s p f → size_at s p < size_at s i
  unfolding size
  record_smaller h e f = omega (arith, term_size h ∙ ap size e, term_size f)
