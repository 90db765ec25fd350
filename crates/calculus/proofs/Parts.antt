-- The rules of a field read count the parts of a type as document 02 does. Assumes nothing.
use Prim.Native.Nat.{ℕ}
use native.Mathlib.Omega.{arith}
use mathlib.Core.Path.{◌≡◌, refl, sym, ◌∙◌, ap, subst, subst_refl}
use mathlib.Core.HLevel.{hedberg, Σ_prop_path}
use mathlib.Core.Logic.{◌↔◌, ◌≢◌, ◌⊎◌, inl, inr, by_cases}
use native.Mathlib.Decide.{ℕ_discrete}
use Rattle.calculus.specs.Syntax.{Ty, int, top, arrow, inter, field, Ty-discrete}
use Rattle.calculus.specs.Subtyping.{TopLike, Ordinary}
use Rattle.calculus.specs.Fields.{NoField, OneField, o_here, o_left, o_right, SomeTopLike}
use Rattle.calculus.specs.Typing.{Projects, p_field, p_top, p_one, p_none}
use Rattle.calculus.specs.Agreement.{Occurs, occurs_here, occurs_left, occurs_right, FieldIn}
use Rattle.calculus.proofs.Subtyping.{top_like_dec}

-- ---- no part

none_to : {l : ℕ} {A C : Ty} → Occurs A (field l C) → NoField l A → TopLike C
none_to (occurs_here o) n = n refl
none_to (occurs_left o) n = none_to o n.0
none_to (occurs_right o) n = none_to o n.1

-- an occurrence in a half is one in the whole
abbrev in_left : {l : ℕ} {A B : Ty} → FieldIn l A → FieldIn l (inter A B)
in_left q = (q.0, occurs_left q.1)

abbrev in_right : {l : ℕ} {A B : Ty} → FieldIn l B → FieldIn l (inter A B)
in_right q = (q.0, occurs_right q.1)

none_from : (l : ℕ) (A : Ty) → ((q : FieldIn l A) → TopLike q.0) → NoField l A
none_from l int h = tt
none_from l top h = tt
none_from l (arrow A B) h = tt
none_from l (inter A B) h = (none_from l A (λ q. h (in_left q)), none_from l B (λ q. h (in_right q)))
none_from l (field k A) h = λ e. h (A, rw e (occurs_here tt))

pub none_counted : (l : ℕ) (A : Ty) → NoField l A ↔ ((q : FieldIn l A) → TopLike q.0)
none_counted l A = (λ n q. none_to q.1 n, none_from l A)

-- ---- some part that is top-like

some_to : (A : Ty) → SomeTopLike A → (P : Ty) × Occurs A P × TopLike P
some_to int t = absurd t
some_to top t = (top, occurs_here tt, tt)
some_to (arrow A B) t = (arrow A B, occurs_here tt, t)
some_to (inter A B) (inl t) = let (P, o, u) = some_to A t in (P, occurs_left o, u)
some_to (inter A B) (inr t) = let (P, o, u) = some_to B t in (P, occurs_right o, u)
some_to (field l A) t = (field l A, occurs_here tt, t)

some_from : (A : Ty) {P : Ty} → Occurs A P → TopLike P → SomeTopLike A
some_from int (occurs_here o) t = t
some_from top (occurs_here o) t = t
some_from (arrow A B) (occurs_here o) t = t
some_from (inter A B) (occurs_here o) t = absurd o
some_from (inter A B) (occurs_left o) t = inl (some_from A o t)
some_from (inter A B) (occurs_right o) t = inr (some_from B o t)
some_from (field l A) (occurs_here o) t = t

pub some_counted : (A : Ty) → SomeTopLike A ↔ ((P : Ty) × Occurs A P × TopLike P)
some_counted A = (some_to A, λ h. some_from A h.1 h.2)

-- ---- precisely one part

-- an occurrence in an intersection is one in a half
abbrev by_half : {l : ℕ} {A B : Ty} (X : FieldIn l (inter A B) → Type 0) → ((q : FieldIn l A) → X (in_left q)) → ((q : FieldIn l B) → X (in_right q)) →
    (q : FieldIn l (inter A B)) → X q
by_half X f g (C, occurs_left o) = f (C, o)
by_half X f g (C, occurs_right o) = g (C, o)

-- the occurrence p is the only one whose content is not top-like
abbrev pub Only : (l : ℕ) (A : Ty) → FieldIn l A → Type 0
Only l A p = (q : FieldIn l A) → ¬ TopLike q.0 → ◌≡◌ {A = FieldIn l A} q p

-- a type that is no intersection occurs in itself alone, and in one way
whole : {A P : Ty} → Ordinary A → Occurs A P → A ≡ P
whole o (occurs_here u) = refl
whole o (occurs_left p) = absurd o
whole o (occurs_right p) = absurd o

ordinary_prop : (A : Ty) → IsProp (Ordinary A)
ordinary_prop int u v = refl
ordinary_prop top u v = refl
ordinary_prop (arrow A B) u v = refl
ordinary_prop (inter A B) u v = absurd u
ordinary_prop (field l A) u v = refl

whole_here : {A P : Ty} (o : Ordinary A) (p : Occurs A P) → p ≡ subst (Occurs A) (whole o p) (occurs_here o)
unfolding whole
whole_here {A} o (occurs_here u) = ap occurs_here (ordinary_prop A u o) ∙ sym (subst_refl (Occurs A) (occurs_here o))
whole_here o (occurs_left p) = absurd o
whole_here o (occurs_right p) = absurd o

occurs_prop : {A P : Ty} → Ordinary A → IsProp (Occurs A P)
occurs_prop {A} {P} o p q =
    whole_here o p ∙ ap (λ e. subst (Occurs A) e (occurs_here o)) (hedberg (Ty-discrete ℕ_discrete) A P (whole o p) (whole o q)) ∙ sym (whole_here o q)

only_here : (l : ℕ) (C : Ty) → Only l (field l C) (C, occurs_here tt)
only_here l C (D, p) m = let e = whole tt p in Σ_prop_path (λ E. occurs_prop tt) cc

only_to : {l : ℕ} {A C : Ty} → OneField l A C → (o : Occurs A (field l C)) × (¬ TopLike C) × Only l A (C, o)
only_to (o_here {l} {C} n) = (occurs_here tt, n, only_here l C)
only_to (o_left o n) =
    let (p, m, k) = only_to o in (occurs_left p, m, by_half _ (λ q u. ap in_left (k q u)) (λ q u. absurd (u (none_to q.1 n))))
only_to (o_right n o) =
    let (p, m, k) = only_to o in (occurs_right p, m, by_half _ (λ q u. absurd (u (none_to q.1 n))) (λ q u. ap in_right (k q u)))

-- where one in a half is the only one, those in the other are top-like
abbrev side : {l : ℕ} {A B : Ty} → FieldIn l (inter A B) → ℕ
side = by_half _ (λ q. 0) (λ q. 1)

others : {l : ℕ} {A B : Ty} {p : FieldIn l (inter A B)} → Only l (inter A B) p → (q : FieldIn l (inter A B)) → side q ≢ side p → TopLike q.0
others k q d = by_cases (top_like_dec q.0) (λ t. t) (λ m. absurd (d (ap side (k q m))))

only_from : {l : ℕ} {A C : Ty} (o : Occurs A (field l C)) → ¬ TopLike C → Only l A (C, o) → OneField l A C
only_from (occurs_here o) n k = o_here n
only_from {l} {C} (occurs_left {B} o) n k =
    o_left (only_from o n (λ q m. ap (by_half _ (λ q. q) (λ q. (C, o))) (k (in_left q) m))) (none_from l B (λ q. others k (in_right q) (omega arith)))
only_from {l} {C} (occurs_right {A} o) n k =
    o_right (none_from l A (λ q. others k (in_left q) (omega arith))) (only_from o n (λ q m. ap (by_half _ (λ q. (C, o)) (λ q. q)) (k (in_right q) m)))

pub one_counted : (l : ℕ) (A C : Ty) → OneField l A C ↔ ((o : Occurs A (field l C)) × (¬ TopLike C) × Only l A (C, o))
one_counted l A C = (only_to, λ h. only_from h.0 h.1 h.2)

-- ---- what a field read takes, by the head of the type

pub projects_single : (l : ℕ) (A C : Ty) → Ordinary A → Projects l A C ↔ ((A ≡ field l C) ⊎ ((A ≡ top) × (C ≡ top)))
projects_single l A C o = (to o, from)
  where
    to : {A C : Ty} → Ordinary A → Projects l A C → (A ≡ field l C) ⊎ ((A ≡ top) × (C ≡ top))
    to o p_field = inl refl
    to o p_top = inr (refl, refl)
    to o (p_one f) = absurd o
    to o (p_none n t) = absurd o

    from : (A ≡ field l C) ⊎ ((A ≡ top) × (C ≡ top)) → Projects l A C
    from (inl e) = rw e p_field
    from (inr (e, f)) = rw (e, f) p_top

pub projects_inter : (l : ℕ) (A B C : Ty) →
    Projects l (inter A B) C ↔ (OneField l (inter A B) C ⊎ (NoField l (inter A B) × SomeTopLike (inter A B) × (C ≡ top)))
projects_inter l A B C = (to, from)
  where
    to : {C : Ty} → Projects l (inter A B) C → OneField l (inter A B) C ⊎ (NoField l (inter A B) × SomeTopLike (inter A B) × (C ≡ top))
    to (p_one o) = inl o
    to (p_none n t) = inr (n, t, refl)

    from : OneField l (inter A B) C ⊎ (NoField l (inter A B) × SomeTopLike (inter A B) × (C ≡ top)) → Projects l (inter A B) C
    from (inl o) = p_one o
    from (inr (n, t, e)) = rw e (p_none n t)
