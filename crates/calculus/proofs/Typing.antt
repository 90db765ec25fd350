-- Typing: the two statements derive the same, types are unique, closed terms are typed alike in every context. Assumes nothing.
use Prim.Native.Nat.{ℕ, suc, ◌≤◌, ◌<◌}
use native.Mathlib.Omega.{arith}
use mathlib.Core.Path.{◌≡◌, refl, sym, ap, ap₂, subst}
use mathlib.Core.Logic.Iff
use mathlib.Core.Logic.{◌↔◌}
use mathlib.Core.Bool.{◌&&◌}
use mathlib.Core.List.{List, [], ◌∷◌, ◌++◌}
use lib.Dec.{T, eqb, ltb→lt, lt→ltb, eqb→eq}
use lib.ListN.{length}
use Rattle.calculus.specs.Syntax.{Ty, inter, field, size_type}
use Rattle.calculus.specs.Syntax.{Term, var, lit, unit, anno, app, lam, merge, fix, rcd, proj, sum, choice, substitute, size}
use Rattle.calculus.specs.Syntax.{Value, v_lit, v_unit, v_lam, v_merge, v_rcd}
use Rattle.calculus.specs.Decide.{is_closed}
use Rattle.calculus.specs.Typing.{Lookup, here, there, Applies, a_arrow, a_top, Projects, p_field, p_top, p_one, p_none, TypedWith, Typed, TypedByList}
use Rattle.calculus.specs.Typing.{t_unit, t_lit, t_var, t_anno, t_app, t_lam, t_merge, t_mergev, t_fix, t_rcd, t_proj, t_sum, t_choice}
use Rattle.calculus.proofs.Bools.{and_says, T_and, by_test}
use Rattle.calculus.proofs.Disjointness.{list→disjoint, disjoint→list}
use Rattle.calculus.proofs.TypedReduction.{value_unique}
use Rattle.calculus.proofs.Fields.{one_not_none, one_unique, one_size}
use Rattle.calculus.proofs.Consistency.{list→consistent, consistent→list}

-- typing over other notions of disjoint and consistent, if the first imply them
pub finds_map : {D D' : Ty → Ty → Type 0} {K K' : Term → Term → Type 0} → ((A B : Ty) → D A B → D' A B)
    → ((v w : Term) (A B : Ty) → Value v A → Value w B → K v w → K' v w)
    → {Γ : List Ty} {e : Term} {A : Ty} → TypedWith D K Γ e A → TypedWith D' K' Γ e A
finds_map d k t_unit = t_unit
finds_map d k t_lit = t_lit
finds_map d k (t_var l) = t_var l
finds_map d k (t_anno t b) = t_anno (finds_map d k t) b
finds_map d k (t_app t a u b) = t_app (finds_map d k t) a (finds_map d k u) b
finds_map d k (t_lam t b) = t_lam (finds_map d k t) b
finds_map d k (t_merge t u c) = t_merge (finds_map d k t) (finds_map d k u) (d _ _ c)
finds_map d k (t_mergev v w t u c) = t_mergev v w (finds_map d k t) (finds_map d k u) (k _ _ _ _ v w c)
finds_map d k (t_fix t b) = t_fix (finds_map d k t) b
finds_map d k (t_rcd t) = t_rcd (finds_map d k t)
finds_map d k (t_proj t p) = t_proj (finds_map d k t) p
finds_map d k (t_sum t b u c) = t_sum (finds_map d k t) b (finds_map d k u) c
finds_map d k (t_choice t b u c s a) = t_choice (finds_map d k t) b (finds_map d k u) c (finds_map d k s) a

-- source's definitions and document 01's lists derive the same judgements
pub typed_by_list : {Γ : List Ty} {e : Term} {A : Ty} → Typed Γ e A ↔ TypedByList Γ e A
typed_by_list = (
  finds_map disjoint→list (λ v w A B p q. consistent→list p q),
  finds_map (λ A B. list→disjoint) (λ v w A B p q. list→consistent),
)

-- the type found for a value is the one that it shows
pub typed_value : {Γ : List Ty} {v : Term} {A B : Ty} → Typed Γ v A → Value v B → A ≡ B
typed_value t_unit v_unit = refl
typed_value t_lit v_lit = refl
typed_value (t_lam t b) v_lam = refl
typed_value (t_merge t u d) (v_merge v w) = ap₂ inter (typed_value t v) (typed_value u w)
typed_value (t_mergev p q t u k) (v_merge v w) = ap₂ inter (value_unique p v) (value_unique q w)
typed_value (t_rcd {l} t) (v_rcd v) = ap (field l) (typed_value t v)
typed_value {B = B} (t_var {Γ = Γ} {n = n} {A = A} _) x6 = elim x6 [ ]
typed_value (t_anno {Γ = Γ} {e = e} {A = A} {B = B} _ _) x8 = elim x8 [ ]
typed_value (t_app {Γ = Γ} {e = e} {f = f} {A = A} {B = B} {C = C} {E = E} _ _ _ _) x11 = elim x11 [ ]
typed_value (t_fix {Γ = Γ} {e = e} {A = A} {B = B} _ _) x10 = elim x10 [ ]
typed_value (t_proj {Γ = Γ} {l = l} {e = e} {A = A} {B = B} _ _) x11 = elim x11 [ ]
typed_value (t_sum {Γ = Γ} {e = e} {f = f} {A = A} {B = B} _ _ _ _) x14 = elim x14 [ ]
typed_value (t_choice {Γ = Γ} {e = e} {f = f} {g = g} {A = A} {B = B} {C = C} _ _ _ _ _ _) x17 = elim x17 [ ]

pub lookup_unique : {Γ : List Ty} {n : ℕ} {A B : Ty} → Lookup Γ n A → Lookup Γ n B → A ≡ B
lookup_unique here here = refl
lookup_unique (there l) (there m) = lookup_unique l m

applies_unique : {A B C D E : Ty} → Applies A B C → Applies A D E → C ≡ E
applies_unique a_arrow a_arrow = refl
applies_unique a_top a_top = refl

-- the content of a record type
pub projects_here : {l k : ℕ} {A C : Ty} → Projects l (field k A) C → A ≡ C
projects_here p_field = refl

projects_unique : {l : ℕ} {A B C : Ty} → Projects l A B → Projects l A C → B ≡ C
projects_unique p_field p = projects_here p
projects_unique p_top p_top = refl
projects_unique (p_one o) (p_one p) = one_unique o p
projects_unique (p_one o) (p_none n t) = absurd (one_not_none o n)
projects_unique (p_none n t) (p_one o) = absurd (one_not_none o n)
projects_unique (p_none n t) (p_none m u) = refl

-- 4.2
pub typed_unique : {Γ : List Ty} {e : Term} {A B : Ty} → Typed Γ e A → Typed Γ e B → A ≡ B
typed_unique t_unit t_unit = refl
typed_unique t_lit t_lit = refl
typed_unique (t_var l) (t_var m) = lookup_unique l m
typed_unique (t_anno s b) (t_anno t c) = refl
typed_unique (t_app s a s' b) (t_app t c t' d) = applies_unique (rw (typed_unique s t) at a) c
typed_unique (t_lam s b) (t_lam t c) = refl
typed_unique (t_merge s s' d) (t_merge t t' e) = ap₂ inter (typed_unique s t) (typed_unique s' t')
typed_unique (t_merge s s' d) (t_mergev v w t t' k) = ap₂ inter (typed_value s v) (typed_value s' w)
typed_unique (t_mergev v w s s' k) (t_merge t t' e) = ap₂ inter (sym (typed_value t v)) (sym (typed_value t' w))
typed_unique (t_mergev v w s s' k) (t_mergev p q t t' m) = ap₂ inter (value_unique v p) (value_unique w q)
typed_unique (t_fix s b) (t_fix t c) = refl
typed_unique (t_rcd {l} s) (t_rcd t) = ap (field l) (typed_unique s t)
typed_unique (t_proj s a) (t_proj t c) = projects_unique (rw (typed_unique s t) at a) c
typed_unique (t_sum s b s' c) (t_sum t d t' e) = refl
typed_unique (t_choice s b s' c s'' a) (t_choice t d t' e t'' f) = refl

-- two parts of one term, and three
pub closed_both : (k : ℕ) (e f : Term) → T (is_closed k e && is_closed k f) ↔ (T (is_closed k e) × T (is_closed k f))
closed_both k e f = T_and (is_closed k e) (is_closed k f)

closed_three : (k : ℕ) (e f g : Term) → T (is_closed k e && is_closed k f && is_closed k g) ↔ ((T (is_closed k e) × T (is_closed k f)) × T (is_closed k g))
closed_three k e f g = and_says (is_closed k e && is_closed k f) (is_closed k g) (closed_both k e f) Iff.rfl

more_both : (j k : ℕ) (e f : Term) → (T (is_closed j e) → T (is_closed k e)) → (T (is_closed j f) → T (is_closed k f)) →
    T (is_closed j e && is_closed j f) → T (is_closed k e && is_closed k f)
more_both j k e f m n c = let (p, q) = (closed_both j e f).0 c in (closed_both k e f).1 (m p, n q)

-- closed below k, and below all that is more
pub closed_more : (j k : ℕ) (e : Term) → j ≤ k → T (is_closed j e) → T (is_closed k e)
unfolding is_closed
closed_more j k (var n) h c = let m : n < j = ltb→lt n j c in lt→ltb n k (omega arith)
closed_more j k (lit i) h c = tt
closed_more j k unit h c = tt
closed_more j k (anno e A) h c = closed_more j k e h c
closed_more j k (app e f) h c = more_both j k e f (closed_more j k e h) (closed_more j k f h) c
closed_more j k (lam e A B) h c = closed_more (suc j) (suc k) e (omega arith) c
closed_more j k (merge e f) h c = more_both j k e f (closed_more j k e h) (closed_more j k f h) c
closed_more j k (fix e A) h c = closed_more (suc j) (suc k) e (omega arith) c
closed_more j k (rcd l e) h c = closed_more j k e h c
closed_more j k (proj l e) h c = closed_more j k e h c
closed_more j k (sum e f) h c = more_both j k e f (closed_more j k e h) (closed_more j k f h) c
closed_more j k (choice e f g) h c =
    let ((p, q), r) = (closed_three j e f g).0 c in
    (closed_three k e f g).1 ((closed_more j k e h p, closed_more j k f h q), closed_more j k g h r)

pub lookup_within : {Γ : List Ty} {n : ℕ} {A : Ty} → Lookup Γ n A → n < length Γ
lookup_within here = omega arith
lookup_within (there l) = let h = lookup_within l in omega arith

-- typed in a context of k types: no variable skips k binders or more
pub typed_closed : {Γ : List Ty} {e : Term} {A : Ty} → Typed Γ e A → T (is_closed (length Γ) e)
unfolding is_closed
typed_closed t_unit = tt
typed_closed t_lit = tt
typed_closed (t_var l) = lt→ltb _ _ (lookup_within l)
typed_closed (t_anno t b) = typed_closed t
typed_closed (t_app {Γ} {e} {f} t a u b) = (closed_both (length Γ) e f).1 (typed_closed t, typed_closed u)
typed_closed (t_lam t b) = typed_closed t
typed_closed (t_merge {Γ} {e} {f} t u d) = (closed_both (length Γ) e f).1 (typed_closed t, typed_closed u)
typed_closed (t_mergev {Γ} {v = e} {w = f} v w t u k) =
    closed_more 0 (length Γ) (merge e f) (omega arith) ((closed_both 0 e f).1 (typed_closed t, typed_closed u))
typed_closed (t_fix t b) = typed_closed t
typed_closed (t_rcd t) = typed_closed t
typed_closed (t_proj t p) = typed_closed t
typed_closed (t_sum {Γ} {e} {f} t b u c) = (closed_both (length Γ) e f).1 (typed_closed t, typed_closed u)
typed_closed (t_choice {Γ} {e} {f} {g} t b u c s a) = (closed_three (length Γ) e f g).1 ((typed_closed t, typed_closed u), typed_closed s)

lookup_weaken : {Δ : List Ty} {n : ℕ} {A : Ty} → Lookup Δ n A → (Γ : List Ty) → Lookup (Δ ++ Γ) n A
lookup_weaken here Γ = here
lookup_weaken (there l) Γ = there (lookup_weaken l Γ)

-- a term without variables past Δ is typed in Δ ++ Γ exactly as in Δ
pub typed_weaken : {Δ : List Ty} {e : Term} {A : Ty} → Typed Δ e A → (Γ : List Ty) → Typed (Δ ++ Γ) e A
typed_weaken t_unit Γ = t_unit
typed_weaken t_lit Γ = t_lit
typed_weaken (t_var l) Γ = t_var (lookup_weaken l Γ)
typed_weaken (t_anno t b) Γ = t_anno (typed_weaken t Γ) b
typed_weaken (t_app t a u b) Γ = t_app (typed_weaken t Γ) a (typed_weaken u Γ) b
typed_weaken (t_lam t b) Γ = t_lam (typed_weaken t Γ) b
typed_weaken (t_merge t u d) Γ = t_merge (typed_weaken t Γ) (typed_weaken u Γ) d
typed_weaken (t_mergev v w t u k) Γ = t_mergev v w t u k
typed_weaken (t_fix t b) Γ = t_fix (typed_weaken t Γ) b
typed_weaken (t_rcd t) Γ = t_rcd (typed_weaken t Γ)
typed_weaken (t_proj t p) Γ = t_proj (typed_weaken t Γ) p
typed_weaken (t_sum t b u c) Γ = t_sum (typed_weaken t Γ) b (typed_weaken u Γ) c
typed_weaken (t_choice t b u c s a) Γ = t_choice (typed_weaken t Γ) b (typed_weaken u Γ) c (typed_weaken s Γ) a

pub lookup_strengthen : (Δ Γ : List Ty) (n : ℕ) {A : Ty} → Lookup (Δ ++ Γ) n A → n < length Δ → Lookup Δ n A
lookup_strengthen [] Γ n l h = absurd (omega arith)
lookup_strengthen (B ∷ Δ) Γ n here h = here
lookup_strengthen (B ∷ Δ) Γ n (there l) h = there (lookup_strengthen Δ Γ _ l (omega arith))

-- the same of a context that is known to be Δ ++ Γ
strengthen : (Δ Γ : List Ty) {Θ : List Ty} {e : Term} {A : Ty} → Typed Θ e A → Θ ≡ Δ ++ Γ → T (is_closed (length Δ) e) → Typed Δ e A
unfolding is_closed
strengthen Δ Γ t_unit q c = t_unit
strengthen Δ Γ t_lit q c = t_lit
strengthen Δ Γ (t_var {n} {A} l) q c = t_var (lookup_strengthen Δ Γ _ (subst (λ Θ. Lookup Θ n A) q l) (ltb→lt _ _ c))
strengthen Δ Γ (t_anno t b) q c = t_anno (strengthen Δ Γ t q c) b
strengthen Δ Γ (t_app {e} {f} t a u b) q c =
    let p = (closed_both (length Δ) e f).0 c in t_app (strengthen Δ Γ t q p.0) a (strengthen Δ Γ u q p.1) b
strengthen Δ Γ (t_lam {A} t b) q c = t_lam (strengthen (A ∷ Δ) Γ t (ap (◌∷◌ A) q) c) b
strengthen Δ Γ (t_merge {e} {f} t u d) q c =
    let p = (closed_both (length Δ) e f).0 c in t_merge (strengthen Δ Γ t q p.0) (strengthen Δ Γ u q p.1) d
strengthen Δ Γ (t_mergev v w t u k) q c = t_mergev v w t u k
strengthen Δ Γ (t_fix {A} t b) q c = t_fix (strengthen (A ∷ Δ) Γ t (ap (◌∷◌ A) q) c) b
strengthen Δ Γ (t_rcd t) q c = t_rcd (strengthen Δ Γ t q c)
strengthen Δ Γ (t_proj t p) q c = t_proj (strengthen Δ Γ t q c) p
strengthen Δ Γ (t_sum {e} {f} t b u d) q c =
    let (p, r) = (closed_both (length Δ) e f).0 c in t_sum (strengthen Δ Γ t q p) b (strengthen Δ Γ u q r) d
strengthen Δ Γ (t_choice {e} {f} {g} t b u d s a) q c =
    let ((p, r), o) = (closed_three (length Δ) e f g).0 c in
    t_choice (strengthen Δ Γ t q p) b (strengthen Δ Γ u q r) d (strengthen Δ Γ s q o) a

pub typed_strengthen : (Δ Γ : List Ty) {e : Term} {A : Ty} → Typed (Δ ++ Γ) e A → T (is_closed (length Δ) e) → Typed Δ e A
typed_strengthen Δ Γ t c = strengthen Δ Γ t refl c

-- nothing is substituted into a closed term
pub substitute_closed : (k : ℕ) (s e : Term) → T (is_closed k e) → substitute k s e ≡ e
unfolding substitute is_closed
substitute_closed k s (var n) c =
    by_test (λ e. e ≡ var n) (eqb n k) (λ t. absurd (omega (arith, eqb→eq n k t, ltb→lt n k c))) (λ f. refl)
substitute_closed k s (lit i) c = refl
substitute_closed k s unit c = refl
substitute_closed k s (anno e A) c = rw (substitute_closed k s e c)
substitute_closed k s (app e f) c = let p = (closed_both k e f).0 c in ap₂ app (substitute_closed k s e p.0) (substitute_closed k s f p.1)
substitute_closed k s (lam e A B) c = rw (substitute_closed (suc k) s e c)
substitute_closed k s (merge e f) c = let p = (closed_both k e f).0 c in ap₂ merge (substitute_closed k s e p.0) (substitute_closed k s f p.1)
substitute_closed k s (fix e A) c = rw (substitute_closed (suc k) s e c)
substitute_closed k s (rcd l e) c = rw (substitute_closed k s e c)
substitute_closed k s (proj l e) c = rw (substitute_closed k s e c)
substitute_closed k s (sum e f) c = let (p, q) = (closed_both k e f).0 c in ap₂ sum (substitute_closed k s e p) (substitute_closed k s f q)
substitute_closed k s (choice e f g) c =
    let ((p, q), r) = (closed_three k e f g).0 c in rw (substitute_closed k s e p, substitute_closed k s f q, substitute_closed k s g r)

applies_size : {A B C : Ty} → Applies C A B → size_type B ≤ size_type C
unfolding size_type
applies_size a_arrow = omega arith
applies_size a_top = omega arith

projects_size : {l : ℕ} {A B : Ty} → Projects l A B → size_type B ≤ size_type A
unfolding size_type
projects_size p_field = omega arith
projects_size p_top = omega arith
projects_size (p_one o) = one_size o
projects_size (p_none n t) = omega arith

-- the type found for a closed term is no larger than the term
pub typed_size : {e : Term} {A : Ty} → Typed [] e A → size_type A ≤ size e
unfolding size size_type
typed_size t_unit = omega arith
typed_size t_lit = omega arith
typed_size (t_anno t b) = omega arith
typed_size (t_app t a u b) = let h = typed_size t in let k = applies_size a in omega arith
typed_size (t_lam t b) = omega arith
typed_size (t_merge t u d) = let h = typed_size t in let k = typed_size u in omega arith
typed_size (t_mergev v w t u k) = let h = typed_size t in let j = typed_size u in omega arith
typed_size (t_fix t b) = omega arith
typed_size (t_rcd t) = let h = typed_size t in omega arith
typed_size (t_proj t p) = let h = typed_size t in let k = projects_size p in omega arith
typed_size (t_sum t b u c) = omega arith
typed_size (t_choice t b u c s a) = omega arith
typed_size {A = A} (t_var {n = n} x4) = elim x4 [ ]
