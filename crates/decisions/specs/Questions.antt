-- What a question about held types or terms asks for, and what its answer says: the test's own, of whatever the cells hold.
-- Assumes nothing.
use Rattle.std.specs.Prelude.{ℕ, ◌+◌, ◌≤◌, ◌≡◌, Bool, true, ◌&&◌, ◌⊎◌, List, length}
use Rattle.calculus.specs.Syntax.{Ty, Term}
use Rattle.calculus.specs.Decide.{is_value, is_closed, is_consistent}
use Rattle.format.specs.Table.{type_sort, term_sort, Use, unused, plain, refers}
use Rattle.format.specs.Cell.{cell_at}
use Rattle.format.specs.Tree.{Tree}
use Rattle.format.specs.Terms.{to_term}
use Rattle.cells.specs.Held.{HeldField, HoldsType, HoldsTerm}
use Rattle.cells.specs.Coded.{use_of}
use Rattle.cells.specs.declared.Use as Code

-- f and g are the halves a and b of an intersection or a merge, in either order.
abbrev pub InOrder : (a b f g : ℕ) → Type 0
InOrder a b f g = ((f ≡ a) × (g ≡ b)) ⊎ ((f ≡ b) × (g ≡ a))

-- Two cells hold something, each by H.
pub record PairAt {X : Type 0} (H : ℕ → X → Type 0) (a b : ℕ) : Type 0 where
  pub first : X
  pub second : X
  pub holds_first : H a first
  pub holds_second : H b second

-- r is what q says of whatever the two cells hold.
pub record PairSays {X : Type 0} (H : ℕ → X → Type 0) (a b : ℕ) (q : X → X → Bool) (r : Bool) : Type 0 where
  pub says : (x y : X) → H a x → H b y → r ≡ q x y

-- The same of types,
abbrev pub TypesAt : List ℕ → ℕ → ℕ → Type 0
TypesAt s = PairAt (HoldsType s)

-- and what is said of them.
abbrev pub TypesSay : List ℕ → ℕ → ℕ → (Ty → Ty → Bool) → Bool → Type 0
TypesSay s = PairSays (HoldsType s)

-- A cell holds a term.
pub record TermAt (s : List ℕ) (i : ℕ) : Type 0 where
  pub term : Term
  pub holds : HoldsTerm s i term

-- r is what q says of it.
pub record TermSays (s : List ℕ) (i : ℕ) (q : Term → Bool) (r : Bool) : Type 0 where
  pub says : (e : Term) → HoldsTerm s i e → r ≡ q e

-- Two cells hold terms,
abbrev pub TermsAt : List ℕ → ℕ → ℕ → Type 0
TermsAt s = PairAt (HoldsTerm s)

-- and what is said of them.
abbrev pub TermsSay : List ℕ → ℕ → ℕ → (Term → Term → Bool) → Bool → Type 0
TermsSay s = PairSays (HoldsTerm s)

-- two terms with a type for each, as a merge's halves
pub record HalvesAt (s : List ℕ) (i j a b : ℕ) : Type 0 where
  pub long : length s ≤ 65536
  pub terms : TermsAt s i j
  pub types : TypesAt s a b

-- r is what q says of these
pub record HalvesSay (s : List ℕ) (i j a b : ℕ) (q : Term → Term → Ty → Ty → Bool) (r : Bool) : Type 0 where
  pub says : (e f : Term) (A B : Ty) → HoldsTerm s i e → HoldsTerm s j f → HoldsType s a A → HoldsType s b B → r ≡ q e f A B

-- A field of this use and number, in some cell, and the tree that it holds.
pub record FieldAt (s : List ℕ) (u : Code.Use) (n : ℕ) : Type 0 where
  pub cell : ℕ
  pub tree : Tree
  pub holds : HeldField true s cell (use_of u) n tree

-- No variable in a field of this use skips k binders or more; only a term has variables.
abbrev pub closed_in : Use → ℕ → Tree → Bool
closed_in unused k t = true
closed_in plain k t = true
closed_in (refers type_sort) k t = true
closed_in (refers term_sort) k t = is_closed k (to_term t)

-- A field under k binders, each of a cell of its own.
pub record ClosedAt (s : List ℕ) (u : Code.Use) (n k : ℕ) : Type 0 where
  pub at : FieldAt s u n
  pub small : k + at.cell ≤ 131072

-- r is whether what the field holds is closed so.
pub record ClosedSays (s : List ℕ) (u : Code.Use) (n k : ℕ) (r : Bool) : Type 0 where
  pub says : (c : ℕ) (f : Tree) → HeldField true s c (use_of u) n f → r ≡ closed_in (use_of u) k f

-- two types, the second neither top-like nor an intersection
pub record UnderPlain (s : List ℕ) (a b : ℕ) : Type 0 where
  pub types : TypesAt s a b
  pub second_marked : (cell_at s b).c ≡ 1 → ⊥
  pub second_single : (cell_at s b).kind ≡ 4 → ⊥

-- nor is the first an intersection
pub record TwoPlain (s : List ℕ) (a b : ℕ) : Type 0 where
  pub under : UnderPlain s a b
  pub first_single : (cell_at s a).kind ≡ 4 → ⊥

-- two types, the first an intersection
pub record LeftInter (s : List ℕ) (a b : ℕ) : Type 0 where
  pub types : TypesAt s a b
  pub inter : (cell_at s a).kind ≡ 4

-- two types, the first no intersection
pub record SingleType (s : List ℕ) (a b : ℕ) : Type 0 where
  pub types : TypesAt s a b
  pub first_single : (cell_at s a).kind ≡ 4 → ⊥

-- and the second one
pub record SingleInter (s : List ℕ) (a b : ℕ) : Type 0 where
  pub first : SingleType s a b
  pub inter : (cell_at s b).kind ≡ 4

-- or no more than the first
pub record SingleTypes (s : List ℕ) (a b : ℕ) : Type 0 where
  pub first : SingleType s a b
  pub second_single : (cell_at s b).kind ≡ 4 → ⊥

-- a number, a function or a record: 17, 21, 24
abbrev pub Plain : ℕ → Type 0
Plain k = (k ≡ 17) ⊎ ((k ≡ 21) ⊎ (k ≡ 24))

-- two terms, the first such
pub record PlainAt (s : List ℕ) (i j : ℕ) : Type 0 where
  pub terms : TermsAt s i j
  pub plain : Plain (cell_at s i).kind

-- both such
pub record PlainPair (s : List ℕ) (i j : ℕ) : Type 0 where
  pub first : PlainAt s i j
  pub plain : Plain (cell_at s j).kind

-- a merge
pub record MergeAt (s : List ℕ) (i : ℕ) : Type 0 where
  pub at : TermAt s i
  pub merge : (cell_at s i).kind ≡ 22

-- two terms, the first a merge
pub record LeftMerge (s : List ℕ) (i j : ℕ) : Type 0 where
  pub terms : TermsAt s i j
  pub merge : (cell_at s i).kind ≡ 22

-- a number, a function or a record, and a merge
pub record RightMerge (s : List ℕ) (i j : ℕ) : Type 0 where
  pub first : PlainAt s i j
  pub merge : (cell_at s j).kind ≡ 22

-- a yes says that the two terms are consistent; a no says nothing
pub record Agreeing (s : List ℕ) (i j : ℕ) (r : Bool) : Type 0 where
  pub says : r ≡ true → TermsSay s i j is_consistent true

-- "closed values"
abbrev pub is_closed_value : Term → Bool
is_closed_value e = is_value e && is_closed 0 e
