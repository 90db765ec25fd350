-- Typed values are read in one way; substitution and steps keep types, up to runtime subtyping; a typed term is a value or has a successor:
-- source 001, lemmas 5.5, 5.6, 5.7, 5.9, 5.10, theorem 5.3. Assumes nothing.
use Prim.Native.Nat.{ℕ, ◌<◌, ◌+◌}
use native.Mathlib.Omega.{arith}
use mathlib.Core.Path.{◌≡◌, refl, sym, ◌∙◌, ap, subst}
use mathlib.Core.Logic.{◌⊎◌, inl, inr, ◌≢◌}
use mathlib.Core.Bool.{cond}
use mathlib.Core.List.{List, [], ◌∷◌, ◌++◌}
use lib.Dec.{eqb}
use lib.ListN.{length, length-append}
use lib.IntN.{ℤ}
use Rattle.calculus.specs.Syntax.{Ty, int, top, inter, field}
use Rattle.calculus.specs.Syntax.{Term, var, lit, unit, anno, app, merge, rcd, proj, sum, choice, substitute}
use Rattle.calculus.specs.Syntax.{Value, v_lit, v_unit, v_lam, v_merge, v_rcd, IsValue}
use Rattle.calculus.specs.Subtyping.{Below, b_top}
use Rattle.calculus.specs.Disjointness.{Disjoint, d_top_left}
use Rattle.calculus.specs.TypedReduction.{Cast, c_lit, c_top, c_arrow, c_rcd, c_left, c_right, c_both}
use Rattle.calculus.specs.Consistency.{Consistent, ConsistentByList, k_lit, k_lam, k_rcd, k_left, k_right, k_disjoint}
use Rattle.calculus.specs.Fields.{NoField, OneField, HasField, f_here, f_left, f_right}
use Rattle.calculus.specs.Typing.{Lookup, here, there, Applies, a_arrow, a_top, Projects, p_field, p_top, p_one, p_none, Typed}
use Rattle.calculus.specs.Typing.{t_unit, t_lit, t_var, t_anno, t_app, t_lam, t_merge, t_mergev, t_fix, t_rcd, t_proj, t_sum, t_choice}
use Rattle.calculus.specs.Step.{Step, s_app_left, s_app_right, s_merge_left, s_merge_right, s_anno, s_rcd, s_proj}
use Rattle.calculus.specs.Step.{s_cast, s_beta, s_app_unit, s_proj_unit, s_proj_rcd, s_proj_part, s_proj_none, s_fix}
use Rattle.calculus.specs.Step.{s_sum_left, s_sum_right, s_sum, s_choice_first, s_choice}
use Rattle.calculus.specs.Runtime.{Runtime, r_refl, r_top, r_arrow, r_inter, r_field}
use Rattle.calculus.proofs.Bools.{by_test, eqb_says}
use Rattle.calculus.proofs.Subtyping.{below_refl, below_trans}
use Rattle.calculus.proofs.Disjointness.{disjoint→list}
use Rattle.calculus.proofs.Runtime.{runtime_below, runtime_disjoint}
use Rattle.calculus.proofs.TypedReduction.{value_unique, cast_from, cast_to, below_cast, cast_trans}
use Rattle.calculus.proofs.Numbers.{chosen_either, below_number}
use Rattle.calculus.proofs.Fields.{one_not_none, one_not_top_like, runtime_one, runtime_none, no_content, part_unique}
use Rattle.calculus.proofs.Consistency.{list→consistent, consistent→list, consistent_sym}
use Rattle.calculus.proofs.Typing.{projects_here, typed_value, typed_closed, typed_weaken, substitute_closed, lookup_within, lookup_strengthen}

-- a typed value has the type that it shows
pub value_typed : {Γ : List Ty} {v : Term} {A B : Ty} → Typed Γ v A → Value v B → Value v A
value_typed {v} t p = subst (Value v) (sym (typed_value t p)) p

-- the halves of a merge are typed
pub typed_halves : {e f : Term} {C : Ty} → Typed [] (merge e f) C → (A : Ty) × (B : Ty) × Typed [] e A × Typed [] f B
typed_halves (t_merge {A} {B} t u d) = (A, B, t, u)
typed_halves (t_mergev {A} {B} v w t u k) = (A, B, t, u)

-- the halves of a typed merge of values are consistent
pub halves_consistent : {v w : Term} {A B C : Ty} → Typed [] (merge v w) C → Value v A → Value w B → ConsistentByList v w
halves_consistent (t_merge {A} {B} t u d) v w = k_disjoint (value_typed t v) (value_typed u w) (disjoint→list A B d)
halves_consistent (t_mergev p q t u k) v w = consistent→list v w k

-- a typed value is consistent with itself, by the list
self_by_list : {v : Term} {A B : Ty} → Typed [] v A → Value v B → ConsistentByList v v
self_by_list t v_lit = k_lit
self_by_list t v_unit = k_disjoint v_unit v_unit d_top_left
self_by_list t v_lam = k_lam
self_by_list t (v_merge v w) =
    let h = typed_halves t in
    let k = halves_consistent t v w in
    let k' = consistent→list w v (consistent_sym (list→consistent k)) in
    k_left (k_right (self_by_list h.2 v) k) (k_right k' (self_by_list h.3 w))
self_by_list (t_rcd t) (v_rcd v) = k_rcd (self_by_list t v)

-- a typed value is consistent with itself
pub self_consistent : {v : Term} {A B : Ty} → Typed [] v A → Value v B → Consistent v v
self_consistent t v = list→consistent (self_by_list t v)

-- 5.5
pub cast_unique : {v x y : Term} {A B : Ty} → Typed [] v B → Cast v A x → Cast v A y → x ≡ y
cast_unique t c d = self_consistent t (cast_from c).1 _ _ _ c d

-- 5.6
pub readings_consistent : {v x y : Term} {A B C : Ty} → Typed [] v C → Cast v A x → Cast v B y → Consistent x y
readings_consistent t c d E p q g h = cast_unique t (cast_trans c g) (cast_trans d h)

-- what a runtime subtype of a function type, or of Top, is applied to and gives
runtime_applies : {A B C C' : Ty} → Applies C A B → Runtime C' C
    → (A' : Ty) × (B' : Ty) × Applies C' A' B' × Below A A' × Runtime B' B
runtime_applies {A} {B} a_arrow r_refl = (A, B, a_arrow, below_refl A, r_refl)
runtime_applies a_arrow (r_top h) = (top, top, a_top, b_top tt, r_top h)
runtime_applies a_arrow (r_arrow b r) = (_, _, a_arrow, b, r)
runtime_applies a_top r_refl = (top, top, a_top, b_top tt, r_refl)
runtime_applies a_top (r_top h) = (top, top, a_top, b_top tt, r_refl)

-- the same for a field read
runtime_projects : {l : ℕ} {A A' B : Ty} → Projects l A B → Runtime A' A → (B' : Ty) × Projects l A' B' × Runtime B' B
runtime_projects p_field r_refl = (_, p_field, r_refl)
runtime_projects p_field (r_top h) = (top, p_top, r_top h)
runtime_projects p_field (r_field r) = (_, p_field, r)
runtime_projects p_top r_refl = (top, p_top, r_refl)
runtime_projects p_top (r_top h) = (top, p_top, r_refl)
runtime_projects (p_one o) r_refl = (_, p_one o, r_refl)
runtime_projects (p_one o) (r_top h) = absurd (one_not_top_like o h)
runtime_projects (p_one o) (r_inter r s) = let (C, p, q) = runtime_one (r_inter r s) o in (C, p_one p, q)
runtime_projects (p_none n t) r_refl = (top, p_none n t, r_refl)
runtime_projects (p_none n t) (r_top h) = (top, p_top, r_refl)
runtime_projects {l} (p_none n t) (r_inter r s) = let (m, u) = runtime_none l (r_inter r s) (n, t) in (top, p_none m u, r_refl)

-- e has a runtime subtype of A
abbrev Refines : List Ty → Term → Ty → Type 0
Refines Γ e A = (B : Ty) × Typed Γ e B × Runtime B A

exact : {Γ : List Ty} {e : Term} {A : Ty} → Typed Γ e A → Refines Γ e A
exact {A} t = (A, t, r_refl)

-- the typing rules up to runtime subtyping: the parts may refine their types
refine_below : {A A' B : Ty} → Runtime A' A → Below A B → Below A' B
refine_below r b = below_trans (runtime_below r) b

refine_anno : {Γ : List Ty} {e : Term} {A B : Ty} → Refines Γ e A → Below A B → Refines Γ (anno e B) B
refine_anno h b = exact (t_anno h.1 (refine_below h.2 b))

refine_app : {Γ : List Ty} {e f : Term} {A B C E : Ty} → Refines Γ e C → Applies C A B → Refines Γ f E → Below E A → Refines Γ (app e f) B
refine_app h a k b =
    let m = runtime_applies a h.2 in
    (m.1, t_app h.1 m.2 k.1 (refine_below k.2 (below_trans b m.3)), m.4)

refine_merge : {Γ : List Ty} {e f : Term} {A B : Ty} → Refines Γ e A → Refines Γ f B → Disjoint A B → Refines Γ (merge e f) (inter A B)
refine_merge h k d = (inter h.0 k.0, t_merge h.1 k.1 (runtime_disjoint h.2 k.2 d), r_inter h.2 k.2)

refine_rcd : {Γ : List Ty} {l : ℕ} {e : Term} {A : Ty} → Refines Γ e A → Refines Γ (rcd l e) (field l A)
refine_rcd {l} h = (field l h.0, t_rcd h.1, r_field h.2)

refine_proj : {Γ : List Ty} {l : ℕ} {e : Term} {A B : Ty} → Refines Γ e A → Projects l A B → Refines Γ (proj l e) B
refine_proj h p = let k = runtime_projects p h.2 in (k.0, t_proj h.1 k.1, k.2)

refine_sum : {Γ : List Ty} {e f : Term} {A B : Ty} → Refines Γ e A → Below A int → Refines Γ f B → Below B int → Refines Γ (sum e f) int
refine_sum h b k c = exact (t_sum h.1 (refine_below h.2 b) k.1 (refine_below k.2 c))

refine_choice : {Γ : List Ty} {e f g : Term} {A B C : Ty} → Refines Γ e A → Below A int → Refines Γ f B → Below B int →
    Refines Γ g C → Below C int → Refines Γ (choice e f g) int
refine_choice h b k c m a = exact (t_choice h.1 (refine_below h.2 b) k.1 (refine_below k.2 c) m.1 (refine_below m.2 a))

-- 5.7
pub cast_typed : {v x : Term} {A B : Ty} → Typed [] v B → Cast v A x → (C : Ty) × Typed [] x C × Runtime C A
cast_typed t c_lit = (int, t_lit, r_refl)
cast_typed t (c_top v o h) = (top, t_unit, r_top h)
cast_typed (t_lam t b) (c_arrow n h k) = (_, t_lam t (below_trans b k), r_arrow h r_refl)
cast_typed (t_rcd t) (c_rcd n c) = refine_rcd (cast_typed t c)
cast_typed t (c_left w o c) = cast_typed (typed_halves t).2 c
cast_typed t (c_right v o c) = cast_typed (typed_halves t).3 c
cast_typed t (c_both c d) =
    let h = cast_typed t c in
    let k = cast_typed t d in (
      inter h.0 k.0,
      t_mergev (value_typed h.1 (cast_to c).1) (value_typed k.1 (cast_to d).1) h.1 k.1 (readings_consistent t c d),
      r_inter h.2 k.2,
    )

lookup_last : (Δ : List Ty) {n : ℕ} {A B : Ty} → Lookup (Δ ++ (B ∷ [])) n A → n ≡ length Δ → A ≡ B
lookup_last [] here e = refl
lookup_last [] (there l) e = absurd (omega arith)
lookup_last (C ∷ Δ) here e = absurd (omega arith)
lookup_last (C ∷ Δ) (there l) e = lookup_last Δ l (omega arith)

-- the variable case: the variable that goes, or another
substitute_var : (Δ : List Ty) {n : ℕ} {s : Term} {A B B' : Ty} → Lookup (Δ ++ (B ∷ [])) n A → Typed [] s B' → Runtime B' B
    → Refines Δ (cond (eqb n (length Δ)) s (var n)) A
substitute_var Δ {n} {A} {B} {B'} l s r =
    by_test (λ e. Refines Δ e A) (eqb n (length Δ)) (λ t. (B', typed_weaken s Δ, rw (lookup_last Δ l ((eqb_says n (length Δ)).0 t)) r)) λ f.
    let other : n ≢ length Δ = λ p. f ((eqb_says n (length Δ)).1 p) in
    let within : n < length Δ + 1 = rw (length-append Δ (B ∷ [])) at (lookup_within l) in
    (A, t_var (lookup_strengthen Δ (B ∷ []) n l (omega arith)), r_refl)

-- 5.10, of a context that is known to be Δ ++ (B ∷ [])
substitute_at : (Δ : List Ty) {Θ : List Ty} {e s : Term} {A B B' : Ty} → Typed Θ e A → Θ ≡ Δ ++ (B ∷ []) → Typed [] s B' → Runtime B' B
    → (A' : Ty) × Typed Δ (substitute (length Δ) s e) A' × Runtime A' A
unfolding substitute
substitute_at Δ t_unit q s r = exact t_unit
substitute_at Δ t_lit q s r = exact t_lit
substitute_at Δ (t_var {n} {A} l) q s r = substitute_var Δ (subst (λ Θ. Lookup Θ n A) q l) s r
substitute_at Δ (t_anno t b) q s r = refine_anno (substitute_at Δ t q s r) b
substitute_at Δ (t_app t a u b) q s r = refine_app (substitute_at Δ t q s r) a (substitute_at Δ u q s r) b
substitute_at Δ (t_lam {A} t b) q s r = let h = substitute_at (A ∷ Δ) t (ap (◌∷◌ A) q) s r in exact (t_lam h.1 (refine_below h.2 b))
substitute_at Δ (t_merge t u d) q s r = refine_merge (substitute_at Δ t q s r) (substitute_at Δ u q s r) d
substitute_at Δ {s = e} (t_mergev {v = x} {w = y} {A} {B} v w t u k) q s r =
    let m : Typed Δ (merge x y) (inter A B) = t_mergev v w t u k in
    exact (subst (λ z. Typed Δ z (inter A B)) (sym (substitute_closed (length Δ) e (merge x y) (typed_closed m))) m)
substitute_at Δ (t_fix {A} t b) q s r = let h = substitute_at (A ∷ Δ) t (ap (◌∷◌ A) q) s r in exact (t_fix h.1 (refine_below h.2 b))
substitute_at Δ (t_rcd t) q s r = refine_rcd (substitute_at Δ t q s r)
substitute_at Δ (t_proj t p) q s r = refine_proj (substitute_at Δ t q s r) p
substitute_at Δ (t_sum t b u c) q s r = refine_sum (substitute_at Δ t q s r) b (substitute_at Δ u q s r) c
substitute_at Δ (t_choice t b u c w a) q s r =
    refine_choice (substitute_at Δ t q s r) b (substitute_at Δ u q s r) c (substitute_at Δ w q s r) a

-- 5.10
pub substitute_typed : (Δ : List Ty) {e s : Term} {A B B' : Ty} → Typed (Δ ++ (B ∷ [])) e A → Typed [] s B' → Runtime B' B
    → (A' : Ty) × Typed Δ (substitute (length Δ) s e) A' × Runtime A' A
substitute_typed Δ t s r = substitute_at Δ t refl s r

pub value_no_step : {h : ℕ} {v f : Term} {A : Ty} → Value v A → ¬ Step h v f
value_no_step (v_merge v w) (s_merge_left s) = value_no_step v s
value_no_step (v_merge v w) (s_merge_right p s) = value_no_step w s
value_no_step (v_rcd v) (s_rcd s) = value_no_step v s
value_no_step {h = h} {f = f} (v_lit {i = i}) x4 = elim x4 [ ]
value_no_step {h = h} {f = f} v_unit x5 = elim x5 [ ]
value_no_step {h = h} {f = f} (v_lam {e = e} {A = A} {B = B}) x6 = elim x6 [ ]

-- the contents of a typed value's parts are typed
content_typed : {l : ℕ} {v x : Term} {A : Ty} → Typed [] v A → HasField l v x → (B : Ty) × Typed [] x B
content_typed (t_rcd t) (f_here v n) = (_, t)
content_typed t (f_left f) = content_typed (typed_halves t).2 f
content_typed t (f_right f) = content_typed (typed_halves t).3 f

-- the successors of a field read of a merge of values
reads_one : {h l : ℕ} {v w x y : Term} {A C : Ty} → Value (merge v w) A → OneField l A C →
    ((z : Term) → HasField l (merge v w) z → z ≡ x) → Step h (proj l (merge v w)) y → y ≡ x
reads_one v o k (s_proj s) = absurd (value_no_step v s)
reads_one v o k (s_proj_part u f) = k _ f
reads_one {l} v o k (s_proj_none u n t) = absurd (one_not_none o (subst (NoField l) (value_unique u v) n))

reads_none : {h : ℕ} (l : ℕ) {v w y : Term} {A : Ty} → Value (merge v w) A → NoField l A → Step h (proj l (merge v w)) y → y ≡ unit
reads_none l v n (s_proj s) = absurd (value_no_step v s)
reads_none l v n (s_proj_part u f) = absurd (no_content n v _ f)
reads_none l v n (s_proj_none u m t) = refl

-- of a typed merge: no more than one, and it has the type found
merge_read : (h : ℕ) {l : ℕ} {v w : Term} {A B : Ty} → Typed [] (merge v w) A → Value (merge v w) A → Projects l A B →
    (x : Term) × Typed [] x B × ((y : Term) → Step h (proj l (merge v w)) y → y ≡ x)
merge_read h t (v_merge v w) (p_one o) =
    let (x, u, f, k) = part_unique o (v_merge v w) in
    let (C, s) = content_typed t f in
    (x, subst (Typed [] x) (typed_value s u) s, λ y. reads_one (v_merge v w) o k)
merge_read h {l} t (v_merge v w) (p_none n m) = (unit, t_unit, λ y. reads_none l (v_merge v w) n)

read_typed : (h : ℕ) {l : ℕ} {v w y : Term} {A B : Ty} → Typed [] (proj l (merge v w)) B → Value (merge v w) A →
    Step h (proj l (merge v w)) y → Refines [] y B
read_typed h (t_proj t p) v s = let (x, u, k) = merge_read h t (value_typed t v) p in exact (rw (k _ s) u)

pub read_unique : {h l : ℕ} {v w y z : Term} {A B : Ty} → Typed [] (proj l (merge v w)) B → Value (merge v w) A →
    Step h (proj l (merge v w)) y → Step h (proj l (merge v w)) z → y ≡ z
read_unique {h} (t_proj t p) v s s' = let (x, u, k) = merge_read h t (value_typed t v) p in k _ s ∙ sym (k _ s')

-- 5.9
pub step_typed : {h : ℕ} {e f : Term} {A : Ty} → Typed [] e A → Step h e f → (B : Ty) × Typed [] f B × Runtime B A
step_typed (t_app t a u b) (s_app_left s) = refine_app (step_typed t s) a (exact u) b
step_typed (t_app t a u b) (s_app_right v s) = refine_app (exact t) a (step_typed u s) b
step_typed (t_merge t u d) (s_merge_left s) = refine_merge (step_typed t s) (exact u) d
step_typed (t_mergev v w t u k) (s_merge_left s) = absurd (value_no_step v s)
step_typed (t_merge t u d) (s_merge_right p s) = refine_merge (exact t) (step_typed u s) d
step_typed (t_mergev v w t u k) (s_merge_right p s) = absurd (value_no_step w s)
step_typed (t_anno t b) (s_anno s) = refine_anno (step_typed t s) b
step_typed (t_rcd t) (s_rcd s) = refine_rcd (step_typed t s)
step_typed (t_proj t p) (s_proj s) = refine_proj (step_typed t s) p
step_typed (t_anno t b) (s_cast c) = cast_typed t c
step_typed (t_app (t_lam t b) a_arrow u d) (s_beta c) = let h = cast_typed u c in refine_anno (substitute_typed [] t h.1 h.2) b
step_typed (t_app t_unit a_top u b) (s_app_unit v) = exact t_unit
step_typed (t_proj t_unit p_top) s_proj_unit = exact t_unit
step_typed (t_proj (t_rcd t) p) (s_proj_rcd v) = exact (subst (Typed [] _) (projects_here p) t)
step_typed {h} (t_proj t p) (s_proj_part v f) = read_typed h (t_proj t p) v (s_proj_part v f)
step_typed {h} (t_proj t p) (s_proj_none v n m) = read_typed h (t_proj t p) v (s_proj_none v n m)
step_typed (t_fix t b) s_fix = refine_anno (substitute_typed [] t (t_fix t b) r_refl) b
step_typed (t_sum t b u c) (s_sum_left s) = refine_sum (step_typed t s) b (exact u) c
step_typed (t_sum t b u c) (s_sum_right v s) = refine_sum (exact t) b (step_typed u s) c
step_typed (t_sum t b u c) (s_sum p q) = exact t_lit
step_typed (t_choice t b u c w a) (s_choice_first s) = refine_choice (step_typed t s) b (exact u) c (exact w) a
step_typed (t_choice t b u c w a) (s_choice {b = e} {c = f} {i} p) =
    exact (chosen_either (λ x. Typed [] (anno x int) int) i e f (t_anno u c) (t_anno w a))
step_typed {h = h} {f = f} t_unit x5 = elim x5 [ ]
step_typed {h = h} {f = f} (t_lit {i = i}) x6 = elim x6 [ ]
step_typed {h = h} {f = f} {A = A} (t_var {n = n} x10) _ = elim x10 [ ]
step_typed {h = h} {f = f} (t_lam {e = e} {A = A} {B = B} {C = C} _ _) x16 = elim x16 [ ]

-- e has a successor
abbrev Steps : ℕ → Term → Type 0
Steps h e = (f : Term) × Step h e f

-- a value applied to a value, or with a field read, steps; a value that is checked against Int is read as a number
applies_step : {h : ℕ} {v w : Term} {A B C E : Ty} → Applies C A B → Value v C → Value w E → Below E A → Steps h (app v w)
applies_step a_arrow v_lam w b = (_, s_beta (below_cast w b).1)
applies_step a_top v_unit w b = (unit, s_app_unit w)

projects_step : {h l : ℕ} {v : Term} {A B : Ty} → Projects l A B → Value v A → Steps h (proj l v)
projects_step p_field (v_rcd v) = (_, s_proj_rcd v)
projects_step p_top v_unit = (unit, s_proj_unit)
projects_step (p_one o) (v_merge v w) = (_, s_proj_part (v_merge v w) (part_unique o (v_merge v w)).2)
projects_step (p_none n t) (v_merge v w) = (unit, s_proj_none (v_merge v w) n t)

typed_number : {v : Term} {A : Ty} → Typed [] v A → Below A int → IsValue v → (i : ℤ) × Cast v int (lit i)
typed_number t b v = below_number (value_typed t v.1) b

-- a term g with a part e that is evaluated first: what if e is a value, and what if it steps
progress_part : {h : ℕ} {e g : Term} → IsValue e ⊎ Steps h e → (IsValue e → IsValue g ⊎ Steps h g) →
    ((f : Term) → Step h e f → Steps h g) → IsValue g ⊎ Steps h g
progress_part (inl v) k m = k v
progress_part (inr s) k m = inr (m s.0 s.1)

-- the same with two parts, in their order
progress_parts : {h : ℕ} {d e g : Term} → IsValue d ⊎ Steps h d → IsValue e ⊎ Steps h e → (IsValue d → IsValue e → IsValue g ⊎ Steps h g)
    → ((f : Term) → Step h d f → Steps h g) → (IsValue d → (f : Term) → Step h e f → Steps h g) → IsValue g ⊎ Steps h g
progress_parts p q k left right = progress_part p (λ v. progress_part q (k v) (right v)) left

-- 5.3
pub progress : {h : ℕ} {e : Term} {A : Ty} → Typed [] e A → IsValue e ⊎ ((f : Term) × Step h e f)
progress t_unit = inl (top, v_unit)
progress t_lit = inl (int, v_lit)
progress (t_anno t b) =
    progress_part (progress t) (λ v. let c = below_cast (value_typed t v.1) b in inr (c.0, s_cast c.1)) (λ f s. (_, s_anno s))
progress (t_app t a u b) = progress_parts (progress t) (progress u)
    (λ v w. inr (applies_step a (value_typed t v.1) (value_typed u w.1) b))
    (λ f s. (_, s_app_left s)) (λ v f s. (_, s_app_right v.1 s))
progress (t_lam t b) = inl (_, v_lam)
progress (t_merge t u d) = progress_parts (progress t) (progress u)
    (λ v w. inl (_, v_merge v.1 w.1)) (λ f s. (_, s_merge_left s)) (λ v f s. (_, s_merge_right v.1 s))
progress (t_mergev v w t u k) = inl (_, v_merge v w)
progress (t_fix t b) = inr (_, s_fix)
progress (t_rcd t) = progress_part (progress t) (λ v. inl (_, v_rcd v.1)) (λ f s. (_, s_rcd s))
progress (t_proj t p) = progress_part (progress t) (λ v. inr (projects_step p (value_typed t v.1))) (λ f s. (_, s_proj s))
progress (t_sum t b u c) = progress_parts (progress t) (progress u)
    (λ v w. inr (_, s_sum (typed_number t b v).1 (typed_number u c w).1)) (λ f s. (_, s_sum_left s)) (λ v f s. (_, s_sum_right v.1 s))
progress (t_choice t b u c w a) = progress_part (progress t) (λ v. inr (_, s_choice (typed_number t b v).1)) (λ f s. (_, s_choice_first s))
progress {h = h} {A = A} (t_var {n = n} x4) = elim x4 [ ]
