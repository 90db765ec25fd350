-- Settings sheets: document 02, (ix). What a sheet is, its count, and what is promised of its steps. Assumes nothing.
use Rattle.std.specs.Prelude.{ℕ, ◌+◌, ◌≤◌, ◌<◌, ◌≡◌, ◌↔◌, Bool, true, false, ◌&&◌, List, [], T}
use Rattle.calculus.specs.Syntax.{Ty, Term, var, lit, unit, anno, app, lam, merge, fix, rcd, proj, sum, choice, size, IsValue}
use Rattle.calculus.specs.Typing.{Typed}
use Rattle.calculus.specs.Step.{Step, Reaches}
use Rattle.calculus.specs.RefusalPaths.{At}

-- "A sheet is a book whose opened root has no variable, function, fixpoint or choice." Types are no terms: a function type may stand in an annotation.
abbrev pub Sheet : Term → Type 0
Sheet (var n) = ⊥
Sheet (lit i) = Unit {0}
Sheet unit = Unit {0}
Sheet (anno e A) = Sheet e
Sheet (app e f) = Sheet e × Sheet f
Sheet (lam e A B) = ⊥
Sheet (merge e f) = Sheet e × Sheet f
Sheet (fix e A) = ⊥
Sheet (rcd l e) = Sheet e
Sheet (proj l e) = Sheet e
Sheet (sum e f) = Sheet e × Sheet f
Sheet (choice e f g) = ⊥

-- The same as a test.
unfoldable pub is_sheet : Term → Bool
is_sheet (var n) = false
is_sheet (lit i) = true
is_sheet unit = true
is_sheet (anno e A) = is_sheet e
is_sheet (app e f) = is_sheet e && is_sheet f
is_sheet (lam e A B) = false
is_sheet (merge e f) = is_sheet e && is_sheet f
is_sheet (fix e A) = false
is_sheet (rcd l e) = is_sheet e
is_sheet (proj l e) = is_sheet e
is_sheet (sum e f) = is_sheet e && is_sheet f
is_sheet (choice e f g) = false

-- "its count of annotations, applications, field reads and sums, with sharing opened"
unfoldable pub count_steps : Term → ℕ
count_steps (var n) = 0
count_steps (lit i) = 0
count_steps unit = 0
count_steps (anno e A) = 1 + count_steps e
count_steps (app e f) = 1 + (count_steps e + count_steps f)
count_steps (lam e A B) = count_steps e
count_steps (merge e f) = count_steps e + count_steps f
count_steps (fix e A) = count_steps e
count_steps (rcd l e) = count_steps e
count_steps (proj l e) = 1 + count_steps e
count_steps (sum e f) = 1 + (count_steps e + count_steps f)
count_steps (choice e f g) = count_steps e + (count_steps f + count_steps g)

-- What no part of a sheet is.
pub data Barred : Term → Type 0 where
  variable : {n : ℕ} → Barred (var n)
  function : {e : Term} {A B : Ty} → Barred (lam e A B)
  fixpoint : {e : Term} {A : Ty} → Barred (fix e A)
  a_choice : {e f g : Term} → Barred (choice e f g)

-- A sheet f, n steps after the sheet e: its count is less by as many, and so at least is its size.
pub record After (n : ℕ) (e f : Term) : Type 0 where
  pub sheet : Sheet f
  pub count : count_steps e ≡ n + count_steps f
  pub size_falls : n + size f ≤ size e

-- Of the calculus, sums held to -h .. h - 1 for any h.
pub record SheetSteps : Type 0 where
  -- "no variable, function, fixpoint or choice": at no place of the term;
  pub parts : (e : Term) → Sheet e ↔ ((p : List ℕ) (f : Term) → At e p f → ¬ Barred f)
  -- the test says which terms are sheets.
  pub decides : (e : Term) → T (is_sheet e) ↔ Sheet e
  -- The values among the sheets are those whose count is 0.
  pub values : (e : Term) → Sheet e → IsValue e ↔ (count_steps e ≡ 0)
  -- A step gives a sheet whose count is one less, and that is smaller; so does any number of steps.
  pub step : (h : ℕ) (e f : Term) → Sheet e → Step h e f → After 1 e f
  pub after : (h n : ℕ) (e f : Term) → Sheet e → Reaches h n e f → After n e f
  -- "given that many steps, reaches its value after precisely that many": typed, it reaches a value then, and at no other time.
  pub reaches : (h : ℕ) (e : Term) (A : Ty) → Typed [] e A → Sheet e → (f : Term) × Reaches h (count_steps e) e f × IsValue f
  pub precisely : (h n : ℕ) (e f : Term) → Sheet e → Reaches h n e f → IsValue f ↔ (n ≡ count_steps e)
  -- The count never passes the size.
  pub bounded : (e : Term) → count_steps e < size e
