-- Finding and checking over a buffer: what a call needs, and what it answers and leaves. The buffer's first n cells stay as they were;
-- types found are cells, never copies. Of the cells above, and of the buffer after a refusal, nothing is decided but what stands here.
-- Assumes nothing.
use Rattle.std.specs.Prelude.{ℕ, ◌+◌, ◌≤◌, ◌<◌, ◌≡◌, cond, List, [], ◌∷◌, length, Option, Some, None, Result, Ok, Err}
use Rattle.std.proofs.Math.Option as Math
use Rattle.std.proofs.Math.Option.{none, some}
use Rattle.std.proofs.Math.ListN.{get_elem?}
use Rattle.calculus.specs.Syntax.{Ty, inter, Term, size}
use Rattle.calculus.specs.Infer as Infer
use Rattle.calculus.specs.Infer.{mismatch, picked, infer}
use Rattle.calculus.specs.Decide.{field_part, is_below}
use Rattle.format.specs.Cell.{cell_at}
use Rattle.format.specs.Book.{follow}
use Rattle.answers.specs.Answer.{refused, reason_number}
use Rattle.answers.specs.Cases.{refusal_answer}
use Rattle.answers.specs.declared.Refusal.{Refusal}
use Rattle.cells.specs.declared.Cell.{Cell}
use Rattle.cells.specs.Coded.{CellFits}
use Rattle.cells.specs.Held.{IsCell, HoldsType, HoldsTerm, HoldsContext, Same}
use Rattle.decisions.specs.Questions.{TypesAt}
use Rattle.projection.specs.Parts.{TypeAt}

-- A buffer of 8,192 cells, of which n are used: a context, a term, and room for a cell for each cell of the term.
pub record FindReady (s : List ℕ) (n c i : ℕ) : Type 0 where
  pub long : length s ≡ 65536
  pub context : List Ty
  pub holds_context : HoldsContext s c context
  pub context_below : c < n
  pub term : Term
  pub holds_term : HoldsTerm s i term
  pub term_below : i < n
  pub room : n + size term ≤ 8192

-- The same, at a term of kind k.
pub record ReadyAt (s : List ℕ) (n c i k : ℕ) : Type 0 where
  pub ready : FindReady s n c i
  pub kind : (cell_at s i).kind ≡ k

-- What is answered for a found type or a refusal: a cell that holds the type, of k that are used then, at most m of them added; or the
-- refusal, at the cell that the path leads to.
abbrev pub Answered : (s t : List ℕ) (n k m i : ℕ) → Result ℕ Refusal → Infer.Found → Type 0
Answered s t n k m i r (Infer.found A) =
    (c : ℕ) × (r ≡ Ok c) × (n ≤ k) × (k ≤ n + m) × Same s t n × (c < k) × HoldsType t c A
Answered s t n k m i r (Infer.refused w p) = (q : Refusal) × (r ≡ Err q) × (refusal_answer q ≡ refused (reason_number w) (follow s i p))

-- Finding: what infer says of the term in the context.
pub record Finds (s t : List ℕ) (n k c i : ℕ) (r : Result ℕ Refusal) : Type 0 where
  pub says : (Γ : List Ty) (e : Term) → HoldsContext s c Γ → HoldsTerm s i e → Answered s t n k (size e) i r (infer Γ e)

-- For checking, also a wanted type.
pub record ReadyFor (s : List ℕ) (n c i w : ℕ) : Type 0 where
  pub ready : FindReady s n c i
  pub wanted : Ty
  pub holds_wanted : HoldsType s w wanted
  pub wanted_below : w < n

-- The term itself is checked: a mismatch names it.
abbrev pub checked_here : Infer.Found → Ty → Infer.Found
checked_here (Infer.found C) A = cond (is_below C A) (Infer.found A) (Infer.refused mismatch [])
checked_here (Infer.refused r p) A = Infer.refused r p

-- Checking: what infer says of the term, checked against the wanted type.
pub record Checks (s t : List ℕ) (n k c i w : ℕ) (r : Result ℕ Refusal) : Type 0 where
  pub says : (Γ : List Ty) (e : Term) (A : Ty) → HoldsContext s c Γ → HoldsTerm s i e → HoldsType s w A →
      Answered s t n k (size e) i r (checked_here (infer Γ e) A)

-- Looking a variable up: the cell of its binder's type, or none.
pub record ContextAt (s : List ℕ) (c : ℕ) : Type 0 where
  pub long : length s ≡ 65536
  pub context : List Ty
  pub holds : HoldsContext s c context

-- A cell below c that holds the type; or none: the variable is free.
abbrev pub BoundBy : (s : List ℕ) (c : ℕ) → Option ℕ → Math.Option Ty → Type 0
BoundBy s c r none = r ≡ None
BoundBy s c r (some A) = (t : ℕ) × (r ≡ Some t) × (t < c) × HoldsType s t A

-- The answer for the variable that skips k binders.
pub record Looks (s : List ℕ) (c k : ℕ) (r : Option ℕ) : Type 0 where
  pub says : (Γ : List Ty) → HoldsContext s c Γ → BoundBy s c r (get_elem? Γ k)

-- Room for the cell.
pub record RoomFor (s : List ℕ) (n : ℕ) (y : Cell) : Type 0 where
  pub long : length s ≡ 65536
  pub room : n < 8192
  pub fits : CellFits y

-- The cell, at n; k cells are used then.
pub record Adds (s t : List ℕ) (n k : ℕ) (y : Cell) (r : ℕ) : Type 0 where
  pub answers : r ≡ n
  pub counts : k ≡ n + 1
  pub same : Same s t n
  pub there : IsCell t n y.kind y.label y.a y.b y.c

-- A type and a context below n, and room for a cell.
pub record BinderBelow (s : List ℕ) (n a c : ℕ) : Type 0 where
  pub long : length s ≡ 65536
  pub type_below : a < n
  pub context_below : c < n
  pub room : n < 8192

-- One binder more, in cell n; k cells are used then.
pub record Binds (s t : List ℕ) (n k a c r : ℕ) : Type 0 where
  pub answers : r ≡ n
  pub counts : k ≡ n + 1
  pub same : Same s t n
  pub holds : (A : Ty) (Γ : List Ty) → HoldsType s a A → HoldsContext s c Γ → HoldsContext t r (A ∷ Γ)

-- Two types below n, and room for a cell.
pub record TypesBelow (s : List ℕ) (n a b : ℕ) : Type 0 where
  pub long : length s ≡ 65536
  pub types : TypesAt s a b
  pub first_below : a < n
  pub second_below : b < n
  pub room : n < 8192

-- The intersection, in cell n; k cells are used then.
pub record AddsInter (s t : List ℕ) (n k a b r : ℕ) : Type 0 where
  pub answers : r ≡ n
  pub counts : k ≡ n + 1
  pub same : Same s t n
  pub holds : (A B : Ty) → HoldsType s a A → HoldsType s b B → HoldsType t r (inter A B)

-- A type below n, and room for a cell.
pub record FindFieldReady (s : List ℕ) (n a : ℕ) : Type 0 where
  pub long : length s ≡ 65536
  pub type : TypeAt s a
  pub below : a < n
  pub room : n < 8192

-- A read of the field of label l, at cell i: the type that the part of the type at a gives it, at most one cell added; or that there is none.
pub record FindsField (s t : List ℕ) (n k a l i : ℕ) (r : Result ℕ Refusal) : Type 0 where
  pub says : (A : Ty) → HoldsType s a A → Answered s t n k 1 i r (picked (field_part l A))
