-- Typing: source 001, figure 4, with document 01's records, the field reads of document 02, (i), "Accepted books are now compared with this
-- wider calculus", and its sums and choices, (ii): "Both join the calculus that demands 2 and 3 cite". One family finds types; checking against B is finding a type below B (TYP-SUB). It is stated over what disjoint and
-- consistent mean: `Typed` takes the source's definitions, `TypedByList` document 01's lists. Assumes nothing.
use Rattle.std.specs.Prelude.{ℕ, zero, suc, List, [], ◌∷◌, ℤ}
use Rattle.calculus.specs.Syntax.{Ty, int, top, arrow, inter, field, Term, var, lit, unit, anno, app, lam, merge, fix, rcd, proj, sum, choice, Value}
use Rattle.calculus.specs.Subtyping.{Below}
use Rattle.calculus.specs.Disjointness.{Disjoint, DisjointByList}
use Rattle.calculus.specs.Consistency.{Consistent, ConsistentByList}
use Rattle.calculus.specs.Fields.{NoField, OneField, SomeTopLike}

-- The n-th type of a context, 0 the innermost.
pub data Lookup : List Ty → ℕ → Ty → Type 0 where
  here : {Γ : List Ty} {A : Ty} → Lookup (A ∷ Γ) zero A
  there : {Γ : List Ty} {n : ℕ} {A B : Ty} → Lookup Γ n A → Lookup (B ∷ Γ) (suc n) A

-- AD-ARR, AD-TOPARR: "must be a function type, or Top, read as Top to Top"
pub data Applies : Ty → Ty → Ty → Type 0 where
  a_arrow : {A B : Ty} → Applies (arrow A B) A B
  a_top : Applies top top top

-- "must be a record type of exactly that label, or Top, which gives Top"; document 02, (i): "A record type or Top keeps its rule."
pub data Projects : ℕ → Ty → Ty → Type 0 where
  p_field : {l : ℕ} {A : Ty} → Projects l (field l A) A
  p_top : {l : ℕ} → Projects l top top
  -- Of an intersection: "If precisely one part is a record of that label and not top-like, its content is the type."
  p_one : {l : ℕ} {A B C : Ty} → OneField l (inter A B) C → Projects l (inter A B) C
  -- "If there is no such part but some part is top-like, the type is Top."
  p_none : {l : ℕ} {A B : Ty} → NoField l (inter A B) → SomeTopLike (inter A B) → Projects l (inter A B) top

-- "Finding a type", with D for disjoint and K for consistent: Γ finds A for e.
pub data TypedWith (D : Ty → Ty → Type 0) (K : Term → Term → Type 0) : List Ty → Term → Ty → Type 0 where
  -- TYP-TOP, TYP-LIT, TYP-VAR: "top value Top; number Int; variable its binder's type"
  t_unit : {Γ : List Ty} → TypedWith D K Γ unit top
  t_lit : {Γ : List Ty} {i : ℤ} → TypedWith D K Γ (lit i) int
  t_var : {Γ : List Ty} {n : ℕ} {A : Ty} → Lookup Γ n A → TypedWith D K Γ (var n) A
  -- TYP-ANNO: "annotation its type, after checking"
  t_anno : {Γ : List Ty} {e : Term} {A B : Ty} → TypedWith D K Γ e A → Below A B → TypedWith D K Γ (anno e B) B
  -- TYP-APP: "the left's type must be a function type, or Top ..; the right is checked against the input"
  t_app : {Γ : List Ty} {e f : Term} {A B C E : Ty} → TypedWith D K Γ e C → Applies C A B → TypedWith D K Γ f E → Below E A → TypedWith D K Γ (app e f) B
  -- TYP-ABS: "function its annotated type, the body checked against the output"
  t_lam : {Γ : List Ty} {e : Term} {A B C : Ty} → TypedWith D K (A ∷ Γ) e C → Below C B → TypedWith D K Γ (lam e A B) (arrow A B)
  -- TYP-MERGE: "the intersection, if the two types are disjoint"
  t_merge : {Γ : List Ty} {e f : Term} {A B : Ty} → TypedWith D K Γ e A → TypedWith D K Γ f B → D A B → TypedWith D K Γ (merge e f) (inter A B)
  -- TYP-MERGEV: "or both halves are closed values and consistent"
  t_mergev : {Γ : List Ty} {v w : Term} {A B : Ty} → Value v A → Value w B → TypedWith D K [] v A → TypedWith D K [] w B → K v w → TypedWith D K Γ (merge v w) (inter A B)
  -- TYP-FIX: "fixpoint its type, the body checked against it"
  t_fix : {Γ : List Ty} {e : Term} {A B : Ty} → TypedWith D K (A ∷ Γ) e B → Below B A → TypedWith D K Γ (fix e A) A
  -- "record a record type"
  t_rcd : {Γ : List Ty} {l : ℕ} {e : Term} {A : Ty} → TypedWith D K Γ e A → TypedWith D K Γ (rcd l e) (field l A)
  -- "Field read: the term's type must be a record type of exactly that label, or Top"; or an intersection that has the field
  t_proj : {Γ : List Ty} {l : ℕ} {e : Term} {A B : Ty} → TypedWith D K Γ e A → Projects l A B → TypedWith D K Γ (proj l e) B
  -- Document 02, (ii): "Kind 26 adds a and b: both are checked against Int", "a sum with type Int";
  t_sum : {Γ : List Ty} {e f : Term} {A B : Ty} → TypedWith D K Γ e A → Below A int → TypedWith D K Γ f B → Below B int → TypedWith D K Γ (sum e f) int
  -- "Kind 27 chooses: a, b, c are checked against Int and the result is Int."
  t_choice : {Γ : List Ty} {e f g : Term} {A B C : Ty} → TypedWith D K Γ e A → Below A int → TypedWith D K Γ f B → Below B int →
      TypedWith D K Γ g C → Below C int → TypedWith D K Γ (choice e f g) int

-- Γ finds A for e, with the source's definitions 3.1 and 3.2.
abbrev pub Typed : List Ty → Term → Ty → Type 0
Typed = TypedWith Disjoint Consistent

-- The same with document 01's lists.
abbrev pub TypedByList : List Ty → Term → Ty → Type 0
TypedByList = TypedWith DisjointByList ConsistentByList

-- Γ finds some type for e: document 01's "accepted", of a term.
abbrev pub HasType : List Ty → Term → Type 0
HasType Γ e = (A : Ty) × Typed Γ e A
