-- Types, terms and values of the disjoint merge calculus: source 001, section 4.1, with the single-field records of document 01.
-- Variables are de Bruijn indices, labels are numbers, numbers are integers. Assumes nothing.
use Rattle.std.specs.Prelude.{ℕ, suc, ◌+◌, cond, eqb, ℤ}

-- "types Int, Top", "function type", "intersection", "record type"
pub data Ty : Type 0 where
  int top : Ty
  arrow : Ty → Ty → Ty
  inter : Ty → Ty → Ty
  field : ℕ → Ty → Ty
  deriving Discrete as Ty-discrete

-- One constructor a kind, in document 01's order: variable, number, top value, annotation, application, function (body, input,
-- output), merge, fixpoint (body, type), record, field read; document 02, (ii): sum, choice.
pub data Term : Type 0 where
  var : ℕ → Term
  lit : ℤ → Term
  unit : Term
  anno : Term → Ty → Term
  app : Term → Term → Term
  lam : Term → Ty → Ty → Term
  merge : Term → Term → Term
  fix : Term → Ty → Term
  rcd : ℕ → Term → Term
  proj : ℕ → Term → Term
  sum : Term → Term → Term
  choice : Term → Term → Term → Term
  deriving Discrete as Term-discrete

-- "The size of a term or type is its count of cells with sharing opened, types included."
unfoldable pub size_type : Ty → ℕ
size_type int = 1
size_type top = 1
size_type (arrow A B) = 1 + size_type A + size_type B
size_type (inter A B) = 1 + size_type A + size_type B
size_type (field l A) = 1 + size_type A

-- The same of a term.
unfoldable pub size : Term → ℕ
size (var n) = 1
size (lit i) = 1
size unit = 1
size (anno e A) = 1 + size e + size_type A
size (app e f) = 1 + size e + size f
size (lam e A B) = 1 + size e + size_type A + size_type B
size (merge e f) = 1 + size e + size f
size (fix e A) = 1 + size e + size_type A
size (rcd l e) = 1 + size e
size (proj l e) = 1 + size e
size (sum e f) = 1 + size e + size f
size (choice e f g) = 1 + size e + size f + size g

-- "Values: numbers, the top value, functions, merges of values, records of values." The second index is the type that a value
-- shows by its form: the principal type of source 001, figure 14.
pub data Value : Term → Ty → Type 0 where
  v_lit : {i : ℤ} → Value (lit i) int
  v_unit : Value unit top
  v_lam : {e : Term} {A B : Ty} → Value (lam e A B) (arrow A B)
  v_merge : {v w : Term} {A B : Ty} → Value v A → Value w B → Value (merge v w) (inter A B)
  v_rcd : {l : ℕ} {v : Term} {A : Ty} → Value v A → Value (rcd l v) (field l A)

-- A value, of whatever type.
abbrev pub IsValue : Term → Type 0
IsValue e = (A : Ty) × Value e A

-- Document 01's "put in": e with s substituted for the variable that skips k binders. Steps never go under a binder, so what is substituted is closed and needs no
-- shifting, and the variable that goes is the outermost.
unfoldable pub substitute : ℕ → Term → Term → Term
substitute k s (var n) = cond (eqb n k) s (var n)
substitute k s (lit i) = lit i
substitute k s unit = unit
substitute k s (anno e A) = anno (substitute k s e) A
substitute k s (app e f) = app (substitute k s e) (substitute k s f)
substitute k s (lam e A B) = lam (substitute (suc k) s e) A B
substitute k s (merge e f) = merge (substitute k s e) (substitute k s f)
substitute k s (fix e A) = fix (substitute (suc k) s e) A
substitute k s (rcd l e) = rcd l (substitute k s e)
substitute k s (proj l e) = proj l (substitute k s e)
substitute k s (sum e f) = sum (substitute k s e) (substitute k s f)
substitute k s (choice e f g) = choice (substitute k s e) (substitute k s f) (substitute k s g)

-- ---- what evaluation asks of a term goes by five forms: a number, the top value, a function, a merge, a record; all else is other

-- A term by its form; a merge is other.
abbrev pub by_form : {X : Type 0} (number : ℤ → X) (top_value : X) (function : Term → Ty → Ty → X) (recorded : ℕ → Term → X) (other : X) → Term → X
by_form n u f r z (var k) = z
by_form n u f r z (lit i) = n i
by_form n u f r z unit = u
by_form n u f r z (anno e A) = z
by_form n u f r z (app e g) = z
by_form n u f r z (lam e A B) = f e A B
by_form n u f r z (merge e g) = z
by_form n u f r z (fix e A) = z
by_form n u f r z (rcd l e) = r l e
by_form n u f r z (proj l e) = z
by_form n u f r z (sum e g) = z
by_form n u f r z (choice e g d) = z

-- The same of a value as a whole: merges and records from what their parts give.
abbrev pub fold_value : {X : Type 0} (number : ℤ → X) (top_value : X) (function : Term → Ty → Ty → X) (merged : X → X → X) (recorded : ℕ → X → X) (other : X)
    → Term → X
fold_value n u f m r z (var k) = z
fold_value n u f m r z (lit i) = n i
fold_value n u f m r z unit = u
fold_value n u f m r z (anno e A) = z
fold_value n u f m r z (app e g) = z
fold_value n u f m r z (lam e A B) = f e A B
fold_value n u f m r z (merge e g) = m (fold_value n u f m r z e) (fold_value n u f m r z g)
fold_value n u f m r z (fix e A) = z
fold_value n u f m r z (rcd l e) = r l (fold_value n u f m r z e)
fold_value n u f m r z (proj l e) = z
fold_value n u f m r z (sum e g) = z
fold_value n u f m r z (choice e g d) = z

-- f of the parts of a value that are no merges, joined by m.
abbrev pub fold_parts : {X : Type 0} (f : Term → X) (m : X → X → X) → Term → X
fold_parts f m (var k) = f (var k)
fold_parts f m (lit i) = f (lit i)
fold_parts f m unit = f unit
fold_parts f m (anno e A) = f (anno e A)
fold_parts f m (app e g) = f (app e g)
fold_parts f m (lam e A B) = f (lam e A B)
fold_parts f m (merge e g) = m (fold_parts f m e) (fold_parts f m g)
fold_parts f m (fix e A) = f (fix e A)
fold_parts f m (rcd l e) = f (rcd l e)
fold_parts f m (proj l e) = f (proj l e)
fold_parts f m (sum e g) = f (sum e g)
fold_parts f m (choice e g d) = f (choice e g d)
