-- Finding a type, as a function. What it finds is a theorem of proofs/: exactly what the rules derive. A refusal carries the path from
-- the term to the part that it names, field by field: 0 for a, 1 for b, 2 for c of document 01's table. Assumes nothing.
use Rattle.std.specs.Prelude.{ℕ, Bool, ◌&&◌, ◌||◌, cond, List, [], ◌∷◌, eqb}
use Rattle.std.proofs.Math.Option.{Option, none, some}
use Rattle.std.proofs.Math.ListN.{get_elem?}
use Rattle.calculus.specs.Syntax.{Ty, int, top, arrow, inter, field}
use Rattle.calculus.specs.Syntax.{Term, var, lit, unit, anno, app, lam, merge, fix, rcd, proj, sum, choice}
use Rattle.calculus.specs.Decide.{FieldPart, no_part, top_part, more_parts, one_part, field_part, is_below, is_disjoint, is_value, is_closed, is_consistent}

-- Rows 11 to 15 of document 01's table: "variable without binder", "application of something else", "field read of something else",
-- "merge neither disjoint nor consistent", "type not below the wanted one".
pub data Reason : Type 0 where
  unbound not_function no_field conflict mismatch : Reason

-- A type; or the reason why there is none, with the path to the part that it names.
pub data Found : Type 0 where
  found : Ty → Found
  refused : Reason → List ℕ → Found

-- "variable its binder's type"
unfoldable pub lookup : Option Ty → Found
lookup none = refused unbound []
lookup (some A) = found A

-- The part at field f, for which r was found, is checked against A; then the whole is as s says.
unfoldable pub checked : ℕ → Found → Ty → Found → Found
checked f (found C) A s = cond (is_below C A) s (refused mismatch (f ∷ []))
checked f (refused r p) A s = refused r (f ∷ p)

-- "12 is tested before the right side is walked"
unfoldable pub applied : Found → Found → Found
applied (found int) r = refused not_function []
applied (found top) r = checked 1 r top (found top)
applied (found (arrow A B)) r = checked 1 r A (found B)
applied (found (inter A B)) r = refused not_function []
applied (found (field l A)) r = refused not_function []
applied (refused r p) s = refused r (0 ∷ p)

-- Of an intersection: "its content is the type", "the type is Top", "Otherwise 13."
unfoldable pub picked : FieldPart → Found
picked no_part = refused no_field []
picked top_part = found top
picked more_parts = refused no_field []
picked (one_part C) = found C

-- "Field read: the term's type must be a record type of exactly that label, or Top, which gives Top"; "For an intersection, look at its parts".
unfoldable pub projected : ℕ → Found → Found
projected l (found int) = refused no_field []
projected l (found top) = found top
projected l (found (arrow A B)) = refused no_field []
projected l (found (inter A B)) = picked (field_part l (inter A B))
projected l (found (field k A)) = cond (eqb l k) (found A) (refused no_field [])
projected l (refused r p) = refused r (0 ∷ p)

-- "record a record type"
unfoldable pub labelled : ℕ → Found → Found
labelled l (found A) = found (field l A)
labelled l (refused r p) = refused r (0 ∷ p)

-- "if the two types are disjoint, or both halves are closed values and consistent"
unfoldable pub is_mergeable : Term → Term → Ty → Ty → Bool
is_mergeable e f A B = is_disjoint A B || (is_value (merge e f) && is_closed 0 (merge e f) && is_consistent e f)

-- "Merge: the intersection", where it may be; the left half is walked first.
unfoldable pub merged : Term → Term → Found → Found → Found
merged e f (found A) (found B) = cond (is_mergeable e f A B) (found (inter A B)) (refused conflict [])
merged e f (found A) (refused r p) = refused r (1 ∷ p)
merged e f (refused r p) s = refused r (0 ∷ p)

-- "Finding a type", in the context Γ. "Typing walks left before right and parts before wholes"; of a sum and a choice it "checks each part before it
-- walks the next".
unfoldable pub infer : List Ty → Term → Found
infer Γ (var n) = lookup (get_elem? Γ n)
infer Γ (lit i) = found int
infer Γ unit = found top
infer Γ (anno e A) = checked 0 (infer Γ e) A (found A)
infer Γ (app e f) = applied (infer Γ e) (infer Γ f)
infer Γ (lam e A B) = checked 0 (infer (A ∷ Γ) e) B (found (arrow A B))
infer Γ (merge e f) = merged e f (infer Γ e) (infer Γ f)
infer Γ (fix e A) = checked 0 (infer (A ∷ Γ) e) A (found A)
infer Γ (rcd l e) = labelled l (infer Γ e)
infer Γ (proj l e) = projected l (infer Γ e)
infer Γ (sum e f) = checked 0 (infer Γ e) int (checked 1 (infer Γ f) int (found int))
infer Γ (choice e f g) = checked 0 (infer Γ e) int (checked 1 (infer Γ f) int (checked 2 (infer Γ g) int (found int)))
