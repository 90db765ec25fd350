-- infer finds exactly the types that the rules derive. Assumes nothing.
use Prim.Native.Nat.{ℕ, zero, suc}
use mathlib.Core.Path.{◌≡◌, refl, ◌∙◌, subst}
use mathlib.Core.Logic.Iff
use mathlib.Core.Logic.{◌↔◌, ◌⊎◌, inl, inr}
use mathlib.Core.Bool.{Bool, cond}
use mathlib.Core.List.{List, [], ◌∷◌}
use borrow.Author.Tests.{eq-eqb, ne_eqb}
use lib.Dec.{T, eqb, eqb→eq}
use lib.ListN.{get_elem?}
use Rattle.calculus.specs.Syntax.{Ty, int, top, arrow, inter, field}
use Rattle.calculus.specs.Syntax.{Term, var, lit, unit, anno, app, lam, merge, fix, rcd, proj, sum, choice, Value, v_merge, IsValue}
use Rattle.calculus.specs.Subtyping.{Below}
use Rattle.calculus.specs.Disjointness.{Disjoint}
use Rattle.calculus.specs.Consistency.{Consistent}
use Rattle.calculus.specs.Typing.{Lookup, here, there, Applies, a_arrow, a_top, Projects, p_field, p_top, p_one, p_none}
use Rattle.calculus.specs.Typing.{Typed, t_unit, t_lit, t_var, t_anno, t_app, t_lam, t_merge, t_mergev, t_fix, t_rcd, t_proj, t_sum, t_choice}
use Rattle.calculus.specs.Decide.{FieldPart, no_part, top_part, more_parts, one_part, field_part, is_below, is_disjoint, is_value, is_closed, is_consistent}
use Rattle.calculus.specs.Infer.{Reason, no_field, Found, found, refused, lookup, checked, applied, picked, projected, labelled, is_mergeable, merged, infer}
use Rattle.calculus.proofs.Bools.{T_true, by_test, T_and, Test, ◌and◌, ◌or◌}
use Rattle.calculus.proofs.Disjointness.{is_disjoint_means}
use Rattle.calculus.proofs.Decisions.{is_below_says, is_below_true}
use Rattle.calculus.proofs.Fields.{Says, field_part_says, one_part_says, top_part_says}
use Rattle.calculus.proofs.Tests.{is_value_says, is_consistent_means}
use Rattle.calculus.proofs.Typing.{typed_value, typed_closed, typed_weaken, typed_strengthen}

-- the type found, if any, satisfies P
data Gives (P : Ty → Type 0) : Found → Type 0 where
  finds : {A : Ty} → P A → Gives P (found A)
  refuses : {r : Reason} {p : List ℕ} → Gives P (refused r p)

found_gives : {P : Ty → Type 0} {A : Ty} → Gives P (found A) → P A
found_gives (finds p) = p

gives_map : {P Q : Ty → Type 0} {r : Found} → ((A : Ty) → P A → Q A) → Gives P r → Gives Q r
gives_map k (finds {A} p) = finds (k A p)
gives_map k refuses = refuses

gives_cond : {P : Ty → Type 0} (b : Bool) (A : Ty) (r : Reason) (p : List ℕ) → (T b → P A) → Gives P (cond b (found A) (refused r p))
gives_cond {P} b A r p k = by_test (Gives P) b (λ t. finds (k t)) (λ n. refuses)

-- what each part of infer gives, from what it is given
gives_lookup : (Γ : List Ty) (n : ℕ) → Gives (Lookup Γ n) (lookup (get_elem? Γ n))
unfolding lookup
gives_lookup [] n = refuses
gives_lookup (A ∷ Γ) zero = finds here
gives_lookup (A ∷ Γ) (suc n) = gives_map (λ B. there) (gives_lookup Γ n)

gives_checked : {P Q : Ty → Type 0} {r s : Found} (f : ℕ) (A : Ty) →
    Gives P r → ((C : Ty) → P C → Below C A → Gives Q s) → Gives Q (checked f r A s)
unfolding checked
gives_checked {Q} f A (finds {A = C} p) k = by_test (Gives Q) (is_below C A) (λ t. k C p ((is_below_says C A).0 t)) (λ n. refuses)
gives_checked f A refuses k = refuses

gives_applied : {P Q R : Ty → Type 0} {r s : Found} → Gives P r → Gives Q s →
    ((A B C E : Ty) → P C → Applies C A B → Q E → Below E A → R B) → Gives R (applied r s)
unfolding applied
gives_applied (finds {A = int} p) q k = refuses
gives_applied (finds {A = top} p) q k = gives_checked 1 top q (λ E u b. finds (k top top top E p a_top u b))
gives_applied (finds {A = arrow A B} p) q k = gives_checked 1 A q (λ E u b. finds (k A B (arrow A B) E p a_arrow u b))
gives_applied (finds {A = inter A B} p) q k = refuses
gives_applied (finds {A = field l A} p) q k = refuses
gives_applied refuses q k = refuses

gives_picked : {Q : Ty → Type 0} (l : ℕ) (A B : Ty) (p : FieldPart) → Says l (inter A B) p →
    ((C : Ty) → Projects l (inter A B) C → Q C) → Gives Q (picked p)
unfolding picked
gives_picked l A B no_part h k = refuses
gives_picked l A B top_part (n, t) k = finds (k top (p_none n t))
gives_picked l A B more_parts h k = refuses
gives_picked l A B (one_part C) o k = finds (k C (p_one o))

gives_projected : {P Q : Ty → Type 0} {r : Found} (l : ℕ) →
    Gives P r → ((A B : Ty) → P A → Projects l A B → Q B) → Gives Q (projected l r)
unfolding projected
gives_projected l (finds {A = int} p) k = refuses
gives_projected l (finds {A = top} p) k = finds (k top top p p_top)
gives_projected l (finds {A = arrow A B} p) k = refuses
gives_projected l (finds {A = inter A B} p) k =
    gives_picked l A B (field_part l (inter A B)) (field_part_says l (inter A B)) (λ C. k (inter A B) C p)
gives_projected l (finds {A = field m A} p) k = gives_cond (eqb l m) A _ _ (λ t. k (field m A) A p (rw (← (eqb→eq l m t)) p_field))
gives_projected l refuses k = refuses

gives_labelled : {P Q : Ty → Type 0} {r : Found} (l : ℕ) → Gives P r → ((A : Ty) → P A → Q (field l A)) → Gives Q (labelled l r)
unfolding labelled
gives_labelled l (finds {A} p) k = finds (k A p)
gives_labelled l refuses k = refuses

gives_merged : {P Q R : Ty → Type 0} {r s : Found} (e f : Term) → Gives P r → Gives Q s →
    ((A B : Ty) → P A → Q B → T (is_mergeable e f A B) → R (inter A B)) → Gives R (merged e f r s)
unfolding merged
gives_merged e f (finds {A} p) (finds {A = B} q) k = gives_cond (is_mergeable e f A B) (inter A B) _ _ (k A B p q)
gives_merged e f (finds p) refuses k = refuses
gives_merged e f refuses q k = refuses

-- the two rules for merges
abbrev ByValues : Term → Term → Ty → Ty → Type 0
ByValues e f A B = Value e A × Value f B × Typed [] e A × Typed [] f B × Consistent e f

mergeable_typed : {Γ : List Ty} {e f : Term} {A B : Ty} → Typed Γ e A → Typed Γ f B →
    Disjoint A B ⊎ ByValues e f A B → Typed Γ (merge e f) (inter A B)
mergeable_typed s t (inl d) = t_merge s t d
mergeable_typed s t (inr (v, w, p, q, k)) = t_mergev v w p q k

-- the test asks just whether one applies, of halves that have these types
mergeable_says : {Γ : List Ty} {e f : Term} {A B : Ty} → Typed Γ e A → Typed Γ f B → T (is_mergeable e f A B) ↔ (Disjoint A B ⊎ ByValues e f A B)
unfolding is_mergeable is_closed
mergeable_says {Γ} {e} {f} {A} {B} s t = ((is_disjoint A B, is_disjoint_means A B) or (values.0, Iff.trans values.1 (to, from))).1
  where
    Asked : Type 0
    Asked = (IsValue (merge e f) × (T (is_closed 0 e) × T (is_closed 0 f))) × T (is_consistent e f)

    values : Test Asked
    values =
        (is_value (merge e f), is_value_says (merge e f))
        and (is_closed 0 (merge e f), T_and (is_closed 0 e) (is_closed 0 f))
        and (is_consistent e f, Iff.rfl)

    to : Asked → ByValues e f A B
    to (((C, v_merge v w), (c, d)), k) =
        (rw (typed_value s v) v, rw (typed_value t w) w, typed_strengthen [] Γ s c, typed_strengthen [] Γ t d, (is_consistent_means v w).0 k)

    from : ByValues e f A B → Asked
    from (v, w, p, q, k) = (((inter A B, v_merge v w), (typed_closed p, typed_closed q)), (is_consistent_means v w).1 k)

infer_sound : (Γ : List Ty) (e : Term) → Gives (Typed Γ e) (infer Γ e)
unfolding infer
infer_sound Γ (var n) = gives_map (λ A. t_var) (gives_lookup Γ n)
infer_sound Γ (lit i) = finds t_lit
infer_sound Γ unit = finds t_unit
infer_sound Γ (anno e A) = gives_checked 0 A (infer_sound Γ e) (λ C t b. finds (t_anno t b))
infer_sound Γ (app e f) = gives_applied (infer_sound Γ e) (infer_sound Γ f) (λ A B C E. t_app)
infer_sound Γ (lam e A B) = gives_checked 0 B (infer_sound (A ∷ Γ) e) (λ C t b. finds (t_lam t b))
infer_sound Γ (merge e f) = gives_merged e f (infer_sound Γ e) (infer_sound Γ f) (λ A B s t m. mergeable_typed s t ((mergeable_says s t).0 m))
infer_sound Γ (fix e A) = gives_checked 0 A (infer_sound (A ∷ Γ) e) (λ C t b. finds (t_fix t b))
infer_sound Γ (rcd l e) = gives_labelled l (infer_sound Γ e) (λ A. t_rcd)
infer_sound Γ (proj l e) = gives_projected l (infer_sound Γ e) (λ A B. t_proj)
infer_sound Γ (sum e f) = gives_checked 0 int (infer_sound Γ e) λ A t b. gives_checked 1 int (infer_sound Γ f) λ B u c. finds (t_sum t b u c)
infer_sound Γ (choice e f g) =
    gives_checked 0 int (infer_sound Γ e) λ A t b. gives_checked 1 int (infer_sound Γ f) λ B u c.
    gives_checked 2 int (infer_sound Γ g) λ C s a. finds (t_choice t b u c s a)

lookup_complete : {Γ : List Ty} {n : ℕ} {A : Ty} → Lookup Γ n A → lookup (get_elem? Γ n) ≡ found A
unfolding lookup
lookup_complete here = refl
lookup_complete (there x) = lookup_complete x

-- a checked part of a type below the wanted one passes
pub checked_passes : (f : ℕ) {r s : Found} {A B : Ty} → r ≡ found A → Below A B → checked f r B s ≡ s
unfolding checked
checked_passes f e b = rw (e, is_below_true b)

applied_complete : {A B C E : Ty} → Applies C A B → Below E A → applied (found C) (found E) ≡ found B
unfolding applied
applied_complete a_arrow b = checked_passes 1 refl b
applied_complete a_top b = checked_passes 1 refl b

projected_complete : {l : ℕ} {A B : Ty} → Projects l A B → projected l (found A) ≡ found B
unfolding projected picked
projected_complete (p_field {l}) = rw (eq-eqb l l refl)
projected_complete p_top = refl
projected_complete (p_one {l} {A} {B} {C} o) = rw ((one_part_says l (inter A B) C).1 o)
projected_complete (p_none {l} {A} {B} n t) = rw ((top_part_says l (inter A B)).1 (n, t))

infer_complete : (Γ : List Ty) (e : Term) (A : Ty) → Typed Γ e A → infer Γ e ≡ found A
unfolding infer labelled merged
infer_complete Γ (var n) A (t_var x) = lookup_complete x
infer_complete Γ (lit i) A t_lit = refl
infer_complete Γ unit A t_unit = refl
infer_complete Γ (anno e B) A (t_anno t b) = checked_passes 0 (infer_complete Γ e _ t) b
infer_complete Γ (app e f) A (t_app {C} {E} s a t b) = rw (infer_complete Γ e C s, infer_complete Γ f E t) (applied_complete a b)
infer_complete Γ (lam e B C) A (t_lam t b) = checked_passes 0 (infer_complete (B ∷ Γ) e _ t) b
infer_complete Γ (merge e f) A (t_merge {A = B} {B = C} s t d) =
    rw (infer_complete Γ e B s, infer_complete Γ f C t, T_true {b = is_mergeable e f B C} (mergeable_says s t) (inl d))
infer_complete Γ (merge e f) A (t_mergev {A = B} {B = C} v w s t k) =
    rw (
      infer_complete Γ e B (typed_weaken s Γ),
      infer_complete Γ f C (typed_weaken t Γ),
      T_true {b = is_mergeable e f B C} (mergeable_says s t) (inr (v, w, s, t, k)),
    )
infer_complete Γ (fix e B) A (t_fix t b) = checked_passes 0 (infer_complete (B ∷ Γ) e _ t) b
infer_complete Γ (rcd l e) A (t_rcd {A = B} t) = rw (infer_complete Γ e B t)
infer_complete Γ (proj l e) A (t_proj {A = B} t p) = rw (infer_complete Γ e B t) (projected_complete p)
infer_complete Γ (sum e f) A (t_sum t b u c) = checked_passes 0 (infer_complete Γ e _ t) b ∙ checked_passes 1 (infer_complete Γ f _ u) c
infer_complete Γ (choice e f g) A (t_choice t b u c s a) =
    checked_passes 0 (infer_complete Γ e _ t) b ∙ checked_passes 1 (infer_complete Γ f _ u) c ∙ checked_passes 2 (infer_complete Γ g _ s) a

-- "Otherwise 13."
picked_none : (l : ℕ) (A B : Ty) (p : FieldPart) → Says l (inter A B) p → ((C : Ty) → ¬ Projects l (inter A B) C) → picked p ≡ refused no_field []
unfolding picked
picked_none l A B no_part h n = refl
picked_none l A B top_part (m, t) n = absurd (n top (p_none m t))
picked_none l A B more_parts h n = refl
picked_none l A B (one_part C) o n = absurd (n C (p_one o))

projected_none : (l : ℕ) (A : Ty) → ((C : Ty) → ¬ Projects l A C) → projected l (found A) ≡ refused no_field []
unfolding projected
projected_none l int n = refl
projected_none l top n = absurd (n top p_top)
projected_none l (arrow A B) n = refl
projected_none l (inter A B) n = picked_none l A B (field_part l (inter A B)) (field_part_says l (inter A B)) n
projected_none l (field k A) n = rw (ne_eqb l k (λ e. n A (rw (← e) p_field))) refl

pub no_field_refused : (Γ : List Ty) (l : ℕ) (e : Term) (A : Ty) → Typed Γ e A → ((C : Ty) → ¬ Projects l A C) → infer Γ (proj l e) ≡ refused no_field []
unfolding infer
no_field_refused Γ l e A t n = rw (infer_complete Γ e A t) (projected_none l A n)

pub infer_says : (Γ : List Ty) (e : Term) (A : Ty) → (infer Γ e ≡ found A) ↔ Typed Γ e A
infer_says Γ e A = (λ h. found_gives (subst (Gives (Typed Γ e)) h (infer_sound Γ e)), infer_complete Γ e A)
