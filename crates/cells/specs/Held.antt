-- What a cell of a buffer holds: a type, a term, a context. A buffer has the cells of a book first, and above them cells that typing
-- adds. Its type cells carry in field c, which no type names, whether the type is top-like. Assumes nothing.
use Rattle.std.specs.Prelude.{ℕ, suc, ◌+◌, ◌*◌, ◌≤◌, ◌<◌, ◌≡◌, Bool, true, false, cond, List, [], ◌∷◌, length, take}
use Rattle.std.proofs.Math.Option.{some}
use Rattle.calculus.specs.Syntax.{Ty, Term}
use Rattle.calculus.specs.Decide.{is_top_like}
use Rattle.format.specs.Table.{Sort, type_sort, term_sort, Use, unused, plain, refers, Row, row_of}
use Rattle.format.specs.Cell.{Cell, cell_at}
use Rattle.format.specs.Tree.{Tree, raw, node}
use Rattle.format.specs.Terms.{to_type, to_term}

-- Cell i of s lies within it and has these fields.
pub record IsCell (s : List ℕ) (i k l a b c : ℕ) : Type 0 where
  pub within : 8 * i + 8 ≤ length s
  pub is : cell_at s i ≡ record { kind = k; label = l; a = a; b = b; c = c }

-- 1 of a top-like type, else 0
abbrev pub mark : Ty → ℕ
mark A = cond (is_top_like A) 1 0

-- A label that the row does not name is 0.
abbrev pub label_by_lem : Use → ℕ → ℕ
label_by_lem unused l = 0
label_by_lem plain l = l
label_by_lem (refers o) l = l

-- What trees of a sort are read as.
abbrev pub Thing : Sort → Type 0
Thing type_sort = Ty
Thing term_sort = Term

-- The type or the term that a tree is read as.
abbrev pub thing : (o : Sort) → Tree → Thing o
thing type_sort t = to_type t
thing term_sort t = to_term t

-- Field c of a type cell, which no type names, is its mark.
abbrev pub MarkIs : Sort → ℕ → Tree → Type 0
MarkIs type_sort c t = c ≡ mark (to_type t)
MarkIs term_sort c t = Unit {0}

-- Where q, cells are marked: a reference is to a cell of its sort, whose field c is its mark. Elsewhere neither is said.
abbrev pub Marked : Bool → Sort → Row → ℕ → Tree → Type 0
Marked true o r c t = (r.sort ≡ o) × MarkIs o c t
Marked false o r c t = Unit {0}

-- A field of this use and number, in a cell n of s, holds the tree: by the row of the kind, unshared, unused fields as 0. References go
-- down.
pub data HeldField (q : Bool) (s : List ℕ) : ℕ → Use → ℕ → Tree → Type 0 where
  f_unused : {n x : ℕ} → HeldField q s n unused x (raw 0)
  f_plain : {n x : ℕ} → HeldField q s n plain x (raw x)
  f_refers : {n x k l a b c m : ℕ} {o : Sort} {r : Row} {f g h : Tree} → x < n → IsCell s x k l a b c → row_of k ≡ some r →
      m ≡ label_by_lem r.label l → Marked q o r c (node k m f g h) →
      HeldField q s x r.a a f → HeldField q s x r.b b g → HeldField q s x r.c c h → HeldField q s n (refers o) x (node k m f g h)

-- t as cell i, of kind k with row r: the tree that it stands for, its fields held below i.
pub record Fields (q : Bool) (s : List ℕ) (i k : ℕ) (r : Row) (t : Cell) (x : Tree) : Type 0 where
  pub a : Tree
  pub b : Tree
  pub c : Tree
  pub is : x ≡ node k (label_by_lem r.label t.label) a b c
  pub held_a : HeldField q s i r.a t.a a
  pub held_b : HeldField q s i r.b t.b b
  pub held_c : HeldField q s i r.c t.c c

-- Cell i holds the type or the term.
pub record Holds (s : List ℕ) (o : Sort) (i : ℕ) (x : Thing o) : Type 0 where
  pub tree : Tree
  pub held : HeldField true s (suc i) (refers o) i tree
  pub is : x ≡ thing o tree

-- Cell i holds the type.
abbrev pub HoldsType : List ℕ → ℕ → Ty → Type 0
HoldsType s = Holds s type_sort

-- Cell i holds the term.
abbrev pub HoldsTerm : List ℕ → ℕ → Term → Type 0
HoldsTerm s = Holds s term_sort

-- A context is a chain of cells of kind 0: a the innermost type, b the rest of the chain; cell 0 ends it.
pub data HoldsContext (s : List ℕ) : ℕ → List Ty → Type 0 where
  h_empty : HoldsContext s 0 []
  h_bind : {i l a b c : ℕ} {A : Ty} {Γ : List Ty} → IsCell s i 0 l a b c → a < i → b < i →
      HoldsType s a A → HoldsContext s b Γ → HoldsContext s i (A ∷ Γ)

-- The first n cells are the same, and so is the length.
pub record Same (s t : List ℕ) (n : ℕ) : Type 0 where
  pub long : length t ≡ length s
  pub below : take (8 * n) t ≡ take (8 * n) s
