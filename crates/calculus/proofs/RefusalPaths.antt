-- Every refusal of `infer` names the part that specs/RefusalPaths says. Assumes nothing.
use Prim.Native.Nat.{ℕ}
use mathlib.Core.Path.{◌≡◌, refl, sym, ap}
use mathlib.Core.Bool.{Bool, true, false, cond}
use mathlib.Core.Option.{Option, none, some}
use mathlib.Core.List.{List, [], ◌∷◌}
use native.Mathlib.Omega.{arith}
use lib.Dec.{eqb}
use lib.ListN.{get_elem?}
use Rattle.calculus.specs.Syntax.{Ty, int, top, arrow, inter, field}
use Rattle.calculus.specs.Syntax.{Term, var, lit, unit, anno, app, lam, merge, fix, rcd, proj, sum, choice}
use Rattle.calculus.specs.Decide.{FieldPart, no_part, top_part, more_parts, one_part, field_part, is_below}
use Rattle.calculus.specs.Infer.{Reason, unbound, not_function, no_field, conflict, mismatch, Found, found, refused}
use Rattle.calculus.specs.Infer.{lookup, checked, applied, picked, projected, labelled, is_mergeable, merged, infer}
use Rattle.calculus.specs.RefusalPaths.{At, here, in_anno, in_left, in_right, in_body, in_first, in_second, in_fix, in_content, in_read}
use Rattle.calculus.specs.RefusalPaths.{in_sum_left, in_sum_right, in_tested, in_zero, in_other}
use Rattle.calculus.specs.RefusalPaths.{ChecksPart, of_anno, of_argument, of_body, of_fix, of_sum_left, of_sum_right, of_tested, of_zero, of_other, NamesPart, Place, RefusesAt}

-- field f of e is d
abbrev Field : Term → ℕ → Term → Type 0
Field e f d = (q : List ℕ) (g : Term) → At d q g → At e (f ∷ q) g

-- what a refusal within a part says of the whole
named_within : {e d : Term} {f : ℕ} (r : Reason) (p : List ℕ) (g : Term) → Field e f d → NamesPart r d p g → NamesPart r e (f ∷ p) g
named_within unbound p g h n = n
named_within not_function p g h n = n
named_within no_field p g h n = n
named_within conflict p g h n = n
named_within {f = f} mismatch p g h n =
    record { around = n.around; to = f ∷ n.to; at = h n.to n.around n.at; last = n.last; path = ap (λ (p : List ℕ). f ∷ p) n.path; checks = n.checks }

within : {e d : Term} {f : ℕ} {r : Reason} {p : List ℕ} → Field e f d → Place d r p → Place e r (f ∷ p)
within {r = r} {p = p} h x = record { part = x.part; at = h p x.part x.at; named = named_within r p x.part h x.named }

given : {e : Term} {s : Reason} {q : List ℕ} → Place e s q → RefusesAt e (refused s q)
given {e} {s} {q} x r p h = let a : s ≡ r = cc in let b : q ≡ p = cc in rw (sym a, sym b) x

never : {e : Term} {A : Ty} → RefusesAt e (found A)
never r p h = let z : ◌≡◌ {A = ℕ} 0 1 = cc in absurd (omega arith)

itself : {e : Term} (s : Reason) → NamesPart s e [] e → RefusesAt e (refused s [])
itself {e} s n = given (record { part = e; at = here; named = n })

-- a test that refuses with s
tested : {e : Term} {x : Found} {s : Reason} {q : List ℕ} (b : Bool) → RefusesAt e x → Place e s q → RefusesAt e (cond b x (refused s q))
tested true k p = k
tested false k p = given p

-- ---- each kind of term, from the results of its parts

lookup_place : (n : ℕ) (x : Option Ty) → RefusesAt (var n) (lookup x)
unfolding lookup
lookup_place n none = itself unbound (n, refl)
lookup_place n (some A) = never

checked_place : {e d : Term} {y : Found} (f : ℕ) → ChecksPart e f d → Field e f d → (x : Found) → RefusesAt d x → (A : Ty) → RefusesAt e y →
    RefusesAt e (checked f x A y)
unfolding checked
checked_place {e} {d} f c h (found C) g A k =
    tested (is_below C A) k
    (record { part = d; at = h [] d here; named = record { around = e; to = []; at = here; last = f; path = refl; checks = c } })
checked_place f c h (refused s q) g A k = given (within h (g s q refl))

applied_place : (e d : Term) (x y : Found) → RefusesAt e x → RefusesAt d y → RefusesAt (app e d) (applied x y)
unfolding applied
applied_place e d (found int) y g h = itself not_function (e, d, refl)
applied_place e d (found top) y g h = checked_place 1 of_argument (λ q f. in_right) y h top never
applied_place e d (found (arrow A B)) y g h = checked_place 1 of_argument (λ q f. in_right) y h A never
applied_place e d (found (inter A B)) y g h = itself not_function (e, d, refl)
applied_place e d (found (field l A)) y g h = itself not_function (e, d, refl)
applied_place e d (refused s q) y g h = given (within (λ q f. in_left) (g s q refl))

picked_place : (l : ℕ) (e : Term) (p : FieldPart) → RefusesAt (proj l e) (picked p)
unfolding picked
picked_place l e no_part = itself no_field (l, e, refl)
picked_place l e top_part = never
picked_place l e more_parts = itself no_field (l, e, refl)
picked_place l e (one_part C) = never

projected_place : (l : ℕ) (e : Term) (x : Found) → RefusesAt e x → RefusesAt (proj l e) (projected l x)
unfolding projected
projected_place l e (found int) g = itself no_field (l, e, refl)
projected_place l e (found top) g = never
projected_place l e (found (arrow A B)) g = itself no_field (l, e, refl)
projected_place l e (found (inter A B)) g = picked_place l e (field_part l (inter A B))
projected_place l e (found (field k A)) g = tested (eqb l k) never (record { part = proj l e; at = here; named = (l, e, refl) })
projected_place l e (refused s q) g = given (within (λ q f. in_read) (g s q refl))

labelled_place : (l : ℕ) (e : Term) (x : Found) → RefusesAt e x → RefusesAt (rcd l e) (labelled l x)
unfolding labelled
labelled_place l e (found A) g = never
labelled_place l e (refused s q) g = given (within (λ q f. in_content) (g s q refl))

merged_place : (e d : Term) (x y : Found) → RefusesAt e x → RefusesAt d y → RefusesAt (merge e d) (merged e d x y)
unfolding merged
merged_place e d (found A) (found B) g h = tested (is_mergeable e d A B) never (record { part = merge e d; at = here; named = (e, d, refl) })
merged_place e d (found A) (refused s q) g h = given (within (λ q f. in_second) (h s q refl))
merged_place e d (refused s q) y g h = given (within (λ q f. in_first) (g s q refl))

pub infer_names : (Γ : List Ty) (e : Term) → RefusesAt e (infer Γ e)
unfolding infer
infer_names Γ (var n) = lookup_place n (get_elem? Γ n)
infer_names Γ (lit i) = never
infer_names Γ unit = never
infer_names Γ (anno e A) = checked_place 0 of_anno (λ q f. in_anno) (infer Γ e) (infer_names Γ e) A never
infer_names Γ (app e f) = applied_place e f (infer Γ e) (infer Γ f) (infer_names Γ e) (infer_names Γ f)
infer_names Γ (lam e A B) = checked_place 0 of_body (λ q f. in_body) (infer (A ∷ Γ) e) (infer_names (A ∷ Γ) e) B never
infer_names Γ (merge e f) = merged_place e f (infer Γ e) (infer Γ f) (infer_names Γ e) (infer_names Γ f)
infer_names Γ (fix e A) = checked_place 0 of_fix (λ q f. in_fix) (infer (A ∷ Γ) e) (infer_names (A ∷ Γ) e) A never
infer_names Γ (rcd l e) = labelled_place l e (infer Γ e) (infer_names Γ e)
infer_names Γ (proj l e) = projected_place l e (infer Γ e) (infer_names Γ e)
infer_names Γ (sum e f) =
    checked_place 0 of_sum_left (λ q g. in_sum_left) (infer Γ e) (infer_names Γ e) int
    (checked_place 1 of_sum_right (λ q g. in_sum_right) (infer Γ f) (infer_names Γ f) int never)
infer_names Γ (choice e f g) =
    checked_place 0 of_tested (λ q d. in_tested) (infer Γ e) (infer_names Γ e) int
    (checked_place 1 of_zero (λ q d. in_zero) (infer Γ f) (infer_names Γ f) int
    (checked_place 2 of_other (λ q d. in_other) (infer Γ g) (infer_names Γ g) int never))
