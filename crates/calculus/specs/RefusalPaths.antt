-- The part that a refusal names: "11 to 14 name the variable, application, field read or merge itself, 15 the checked term". Assumes nothing.
use Rattle.std.specs.Prelude.{ℕ, ◌≡◌, List, [], ◌∷◌, ◌++◌}
use Rattle.calculus.specs.Syntax.{Ty, Term, var, anno, app, lam, merge, fix, rcd, proj, sum, choice}
use Rattle.calculus.specs.Infer.{Reason, unbound, not_function, no_field, conflict, mismatch, Found, refused}

-- The part of a term at the end of a path, field by field: 0 for a, 1 for b, 2 for c of document 01's table.
pub data At : Term → List ℕ → Term → Type 0 where
  here : {e : Term} → At e [] e
  in_anno : {e f : Term} {A : Ty} {p : List ℕ} → At e p f → At (anno e A) (0 ∷ p) f
  in_left : {e d f : Term} {p : List ℕ} → At e p f → At (app e d) (0 ∷ p) f
  in_right : {e d f : Term} {p : List ℕ} → At d p f → At (app e d) (1 ∷ p) f
  in_body : {e f : Term} {A B : Ty} {p : List ℕ} → At e p f → At (lam e A B) (0 ∷ p) f
  in_first : {e d f : Term} {p : List ℕ} → At e p f → At (merge e d) (0 ∷ p) f
  in_second : {e d f : Term} {p : List ℕ} → At d p f → At (merge e d) (1 ∷ p) f
  in_fix : {e f : Term} {A : Ty} {p : List ℕ} → At e p f → At (fix e A) (0 ∷ p) f
  in_content : {l : ℕ} {e f : Term} {p : List ℕ} → At e p f → At (rcd l e) (0 ∷ p) f
  in_read : {l : ℕ} {e f : Term} {p : List ℕ} → At e p f → At (proj l e) (0 ∷ p) f
  in_sum_left : {e d f : Term} {p : List ℕ} → At e p f → At (sum e d) (0 ∷ p) f
  in_sum_right : {e d f : Term} {p : List ℕ} → At d p f → At (sum e d) (1 ∷ p) f
  in_tested : {e c d f : Term} {p : List ℕ} → At e p f → At (choice e c d) (0 ∷ p) f
  in_zero : {e c d f : Term} {p : List ℕ} → At c p f → At (choice e c d) (1 ∷ p) f
  in_other : {e c d f : Term} {p : List ℕ} → At d p f → At (choice e c d) (2 ∷ p) f

-- Field f of a term is checked against a type, and it is d: "annotation its type, after checking"; "the right is checked against the input";
-- "the body checked against the output"; "the body checked against it"; of a sum "both are checked against Int", of a choice "a, b, c".
pub data ChecksPart : Term → ℕ → Term → Type 0 where
  of_anno : {d : Term} {A : Ty} → ChecksPart (anno d A) 0 d
  of_argument : {e d : Term} → ChecksPart (app e d) 1 d
  of_body : {d : Term} {A B : Ty} → ChecksPart (lam d A B) 0 d
  of_fix : {d : Term} {A : Ty} → ChecksPart (fix d A) 0 d
  of_sum_left : {d e : Term} → ChecksPart (sum d e) 0 d
  of_sum_right : {e d : Term} → ChecksPart (sum e d) 1 d
  of_tested : {d e c : Term} → ChecksPart (choice d e c) 0 d
  of_zero : {e d c : Term} → ChecksPart (choice e d c) 1 d
  of_other : {e c d : Term} → ChecksPart (choice e c d) 2 d

-- The term e has, at the end of the path p, a part that the part around it checks: the last field of the path.
pub record CheckedAt (e : Term) (p : List ℕ) (f : Term) : Type 0 where
  pub around : Term
  pub to : List ℕ
  pub at : At e to around
  pub last : ℕ
  pub path : p ≡ to ++ (last ∷ [])
  pub checks : ChecksPart around last f

-- "11 to 14 name the variable, application, field read or merge itself, 15 the checked term"
abbrev pub NamesPart : Reason → Term → List ℕ → Term → Type 0
NamesPart unbound e p f = (n : ℕ) × (f ≡ var n)
NamesPart not_function e p f = (c : Term) × (d : Term) × (f ≡ app c d)
NamesPart no_field e p f = (l : ℕ) × (d : Term) × (f ≡ proj l d)
NamesPart conflict e p f = (c : Term) × (d : Term) × (f ≡ merge c d)
NamesPart mismatch e p f = CheckedAt e p f

-- The path p, which a refusal for r carries, leads from e to a part that is what r names.
pub record Place (e : Term) (r : Reason) (p : List ℕ) : Type 0 where
  pub part : Term
  pub at : At e p part
  pub named : NamesPart r e p part

-- What is promised of a result of finding e's type: if it is a refusal, it has its place.
abbrev pub RefusesAt : Term → Found → Type 0
RefusesAt e x = (r : Reason) (p : List ℕ) → x ≡ refused r p → Place e r p
