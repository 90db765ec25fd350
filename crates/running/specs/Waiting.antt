-- What waits around the focus of a run: the cells whose parts are not all values yet. Such a cell keeps its place and lends its fields: one
-- that waits for its first part has in field a the cell that waits around it, and keeps field b, and of a choice field c; of every other kind
-- field c is 0 then. One that waits for its second part has that cell in field b, and in field c where its first part begins, raised by 1. Assumes
-- nothing.
use Rattle.std.specs.Prelude.{ℕ, suc, ◌+◌, ◌≤◌, ◌<◌, ◌≡◌, true, List, [], ◌∷◌}
use Rattle.std.proofs.Math.Option.{some}
use Rattle.format.specs.Table.{term_sort, unused, refers, Row, row_of}
use Rattle.format.specs.Tree.{Tree, raw, node, cells}
use Rattle.cells.specs.Held.{IsCell, label_by_lem}
use Rattle.emission.specs.Runs.{Run}

-- What waits around a focus: a cell for its first part, the rest to come; or for its second part, the first done.
pub data Frame : Type 0 where
  first : (kind label : ℕ) (b c : Tree) → Frame
  second : (kind label : ℕ) (a : Tree) → Frame

-- The cell with t for the part that it waits for.
unfoldable pub plug : Frame → Tree → Tree
plug (first k l g h) t = node k l t g h
plug (second k l f) t = node k l f t (raw 0)

-- the innermost first
unfoldable pub fill : List Frame → Tree → Tree
fill [] t = t
fill (f ∷ k) t = fill k (plug f t)

-- The cell j waits for a focus that begins at cell p on the left, and before cell q on the right; 0: none does.
pub data Waits (w : List ℕ) : ℕ → ℕ → ℕ → List Frame → Type 0 where
  w_none : Waits w 0 0 8192 []
  w_first : {j p q z u k l m b c : ℕ} {r : Row} {g h : Tree} {K : List Frame} → IsCell w j k l u b c → row_of k ≡ some r → m ≡ label_by_lem r.label l →
      r.a ≡ refers term_sort → (r.c ≡ unused → c ≡ 0) → Run true w q r.b b g z → Run true w z r.c c h j → p < q → Waits w u p (suc j) K → Waits w j p q (first k m g h ∷ K)
  w_second : {j p o u k l m a c : ℕ} {r : Row} {f : Tree} {K : List Frame} → IsCell w j k l a u c → row_of k ≡ some r → m ≡ label_by_lem r.label l →
      r.a ≡ refers term_sort → r.b ≡ refers term_sort → r.c ≡ unused → c ≡ suc o → Run true w o (refers term_sort) a f p → p ≤ j →
      Waits w u o (suc j) K → Waits w j p j (second k m f ∷ K)

-- The cells around a focus.
unfoldable pub around : List Frame → ℕ
around [] = 0
around (first k l g h ∷ K) = 1 + (cells g + cells h) + around K
around (second k l f ∷ K) = 1 + cells f + around K
