-- Runs of cells: a tree that stands in a buffer as it is encoded, children first and root last. Assumes nothing.
use Rattle.std.specs.Prelude.{ℕ, suc, ◌≡◌, Bool, true, List}
use Rattle.std.proofs.Math.Option.{some}
use Rattle.calculus.specs.Syntax.{Ty, Term}
use Rattle.format.specs.Table.{Sort, type_sort, term_sort, Use, unused, plain, refers, Row, row_of}
use Rattle.format.specs.Tree.{Tree, raw, node}
use Rattle.format.specs.Terms.{from_type, from_term, WideFits}
use Rattle.cells.specs.Held.{IsCell, label_by_lem, Marked}

-- A field of this use and number stands for the tree, whose cells are those from x on before y, children first and root last. What else
-- stands in a field that the row does not name is not said.
pub data Run (q : Bool) (s : List ℕ) : ℕ → Use → ℕ → Tree → ℕ → Type 0 where
  r_unused : {x n : ℕ} → Run q s x unused n (raw 0) x
  r_plain : {x n : ℕ} → Run q s x plain n (raw n) x
  r_refers : {x y z i e k l a b c m : ℕ} {o : Sort} {r : Row} {f g h : Tree} → IsCell s i k l a b c → row_of k ≡ some r → m ≡ label_by_lem r.label l →
      Run q s x r.a a f y → Run q s y r.b b g z → Run q s z r.c c h i → e ≡ suc i → Marked q o r c (node k m f g h) →
      Run q s x (refers o) i (node k m f g h) e

-- Cell i ends a run of the type, its types marked.
pub record RunsType (s : List ℕ) (i : ℕ) (A : Ty) : Type 0 where
  pub start : ℕ
  pub run : Run true s start (refers type_sort) i (from_type A) (suc i)

-- Cell i ends a run of the term, its types marked.
pub record RunsTerm (s : List ℕ) (i : ℕ) (e : Term) : Type 0 where
  pub start : ℕ
  pub run : Run true s start (refers term_sort) i (from_term e) (suc i)
  pub fits : WideFits e
