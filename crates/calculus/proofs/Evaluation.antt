-- next answers a successor, wherever there is one; a typed term has no other: source 001, theorem 5.1. Assumes nothing.
use Prim.Native.Nat.{ℕ}
use mathlib.Core.Path.{◌≡◌, refl, ap, ap₂, subst}
use mathlib.Core.Logic.{◌↔◌}
use mathlib.Core.Bool.{Bool, true, false, not, ◌&&◌}
use mathlib.Core.Option.{Option, some, map}
use mathlib.Core.List.{[]}
use borrow.Author.Tests.{eq-eqb}
use lib.Dec.{T, eqb, eqb→eq}
use lib.IntN.{ℤ, ◌+ℤ◌}
use Rattle.calculus.specs.Syntax.{Ty, int, inter, field, Term, var, lit, unit, anno, app, lam, merge, fix, rcd, proj, sum, choice}
use Rattle.calculus.specs.Syntax.{Value, v_lit, v_unit, v_lam, v_merge, v_rcd, IsValue}
use Rattle.calculus.specs.Numbers.{hold}
use Rattle.calculus.specs.TypedReduction.{Cast}
use Rattle.calculus.specs.Fields.{HasField, f_here, f_left, f_right}
use Rattle.calculus.specs.Typing.{Typed, HasType, t_anno, t_app, t_rcd, t_proj, t_sum, t_choice}
use Rattle.calculus.specs.Step.{Step, s_app_left, s_app_right, s_merge_left, s_merge_right, s_anno, s_rcd, s_proj, s_cast, s_beta}
use Rattle.calculus.specs.Step.{s_app_unit, s_proj_unit, s_proj_rcd, s_proj_part, s_proj_none, s_fix, s_sum_left, s_sum_right, s_sum, s_choice_first, s_choice}
use Rattle.calculus.specs.Decide.{is_top_like, FieldPart, no_part, top_part, more_parts, one_part, field_part, is_value, type_of}
use Rattle.calculus.specs.Evaluate.{first_part, cast, apply, content, top_value, read_parts, project, number_of, choose, add, next}
use Rattle.calculus.proofs.Bools.{T_true, T_false}
use Rattle.calculus.proofs.TypedReduction.{cast_from}
use Rattle.calculus.proofs.Numbers.{int_reading}
use Rattle.calculus.proofs.Fields.{Says, field_part_says, top_part_says, fits}
use Rattle.calculus.proofs.Tests.{is_value_says, Answers, nothing, answer, answers_some, answers_within, answers_either, answers_if, cast_reads, cast_sound}
use Rattle.calculus.proofs.Tests.{Answered, answered, the_answer, some_left, some_right, cast_complete}
use Rattle.calculus.proofs.Soundness.{typed_halves, cast_unique, value_no_step, read_unique}

answers_map : {P Q : Term → Type 0} {r : Option Term} → ((e : Term) → P e → Q e) → Answers P r → Answers Q r
answers_map k nothing = nothing
answers_map k (answer {e} p) = answer (k e p)

-- one answer for a value, another for any other term
answers_value : {P : Term → Type 0} {r s : Option Term} (e : Term) →
    ((A : Ty) → Value e A → Answers P r) → Answers P s → Answers P (elim (is_value e) [ true ↦ r | false ↦ s ])
answers_value {P} {r} {s} e p q = go (is_value e) (is_value_says e).0
  where
    go : (b : Bool) → (T b → IsValue e) → Answers P (elim b [ true ↦ r | false ↦ s ])
    go true k = let v = k tt in p v.0 v.1
    go false k = q

apply_answers : {h : ℕ} {v w : Term} {A B : Ty} → Value v A → Value w B → Answers (Step h (app v w)) (apply v w)
unfolding apply
apply_answers v_lit w = nothing
apply_answers v_unit w = answer (s_app_unit w)
apply_answers (v_lam {A}) w = answers_within _ (cast_reads A _ _ w) (λ x. s_beta)
apply_answers (v_merge u v) w = nothing
apply_answers (v_rcd v) w = nothing

-- the type that a value shows
type_of_says : {v : Term} {A : Ty} → Value v A → type_of v ≡ A
unfolding type_of
type_of_says v_lit = refl
type_of_says v_unit = refl
type_of_says v_lam = refl
type_of_says (v_merge v w) = ap₂ inter (type_of_says v) (type_of_says w)
type_of_says (v_rcd {l} v) = ap (field l) (type_of_says v)

-- of a merge, the content of a part that has the field; the top value
content_answers : {v : Term} {A : Ty} (l : ℕ) → Value v A → Answers (HasField l v) (first_part (content l) v)
unfolding first_part content
content_answers l v_lit = nothing
content_answers l v_unit = nothing
content_answers l v_lam = nothing
content_answers l (v_merge v w) = answers_either (content_answers l v) (content_answers l w) (λ x. f_left) (λ x. f_right)
content_answers l (v_rcd {l = k} {A} v) =
    rw (type_of_says v) (answers_if (eqb l k && not (is_top_like A)) λ t. let (e, n) = (fits l k A).0 t in answer (rw e (f_here v n)))

top_answers : {h : ℕ} {v w : Term} {A : Ty} (l : ℕ) → Value (merge v w) A → (p : FieldPart) → Says l A p → Answers (Step h (proj l (merge v w))) (top_value p)
unfolding top_value
top_answers l v no_part h = nothing
top_answers l v top_part (n, t) = answer (s_proj_none v n t)
top_answers l v more_parts h = nothing
top_answers l v (one_part C) o = nothing

merge_answers : {h : ℕ} {v w : Term} {A : Ty} (l : ℕ) → Value (merge v w) A → Answers (Step h (proj l (merge v w))) (read_parts l (merge v w))
unfolding read_parts
merge_answers {A} l v =
    answers_either (content_answers l v) (rw (type_of_says v) (top_answers l v (field_part l A) (field_part_says l A))) (λ x. s_proj_part v) (λ x s. s)

project_answers : {h : ℕ} {v : Term} {A : Ty} (l : ℕ) → Value v A → Answers (Step h (proj l v)) (project l v)
unfolding project
project_answers l v_lit = nothing
project_answers l v_unit = answer s_proj_unit
project_answers l v_lam = nothing
project_answers l (v_merge u v) = merge_answers l (v_merge u v)
project_answers l (v_rcd {l = k} v) = answers_if (eqb l k) λ t. answer (rw (eqb→eq l k t) (s_proj_rcd v))

-- the number that a value is read as, and the sum of two
int_answers : {v : Term} {A : Ty} → Value v A → Answers (λ x. Cast v int (lit (number_of x))) (cast int v)
int_answers v = answers_map (λ x. int_reading) (cast_reads int _ _ v)

add_answers : {h : ℕ} {v w : Term} {A B : Ty} → Value v A → Value w B → Answers (Step h (sum v w)) (add h (cast int v) (cast int w))
unfolding add
add_answers {h} {v} {w} a b = go (int_answers a)
  where
    go : {r : Option Term} → Answers (λ x. Cast v int (lit (number_of x))) r → Answers (Step h (sum v w)) (add h r (cast int w))
    go nothing = nothing
    go (answer c) = answers_within _ (int_answers b) (λ y. s_sum c)

next_answers : (h : ℕ) (e : Term) → Answers (Step h e) (next h e)
unfolding next choose
next_answers h (var n) = nothing
next_answers h (lit i) = nothing
next_answers h unit = nothing
next_answers h (anno e A) =
    answers_value e (λ B v. answers_map (λ x. s_cast) (cast_reads A _ _ v)) (answers_within _ (next_answers h e) (λ x. s_anno))
next_answers h (app e f) =
    answers_value e
    (λ A v. answers_value f (λ B w. apply_answers v w) (answers_within _ (next_answers h f) (λ x. s_app_right v)))
    (answers_within _ (next_answers h e) (λ x. s_app_left))
next_answers h (lam e A B) = nothing
next_answers h (merge e f) =
    answers_value e
    (λ A v. answers_within _ (next_answers h f) (λ x. s_merge_right v))
    (answers_within _ (next_answers h e) (λ x. s_merge_left))
next_answers h (fix e A) = answer s_fix
next_answers h (rcd l e) = answers_within _ (next_answers h e) (λ x. s_rcd)
next_answers h (proj l e) = answers_value e (λ A. project_answers l) (answers_within _ (next_answers h e) (λ x. s_proj))
next_answers h (sum e f) =
    answers_value e
    (λ A v. answers_value f (λ B w. add_answers v w) (answers_within _ (next_answers h f) (λ x. s_sum_right v)))
    (answers_within _ (next_answers h e) (λ x. s_sum_left))
next_answers h (choice e f g) =
    answers_value e (λ A v. answers_within _ (int_answers v) (λ x. s_choice)) (answers_within _ (next_answers h e) (λ x. s_choice_first))

pub next_sound : (h : ℕ) (e f : Term) → next h e ≡ some f → Step h e f
next_sound h e f p = answers_some (subst (Answers (Step h e)) p (next_answers h e))

-- a value is found to be one, a term with a successor is not
value_true : {v : Term} {A : Ty} → Value v A → is_value v ≡ true
value_true {v} {A} w = T_true (is_value_says v) (A, w)

step_false : {h : ℕ} {e f : Term} → Step h e f → is_value e ≡ false
step_false {e} s = T_false (is_value_says e) (λ v. value_no_step v.1 s)

-- a part that has the field is found, or another before it
content_some : {l : ℕ} {v x : Term} → HasField l v x → Answered (first_part (content l) v)
unfolding first_part content
content_some (f_here {l} {A} v n) = rw (type_of_says v, T_true {b = eqb l l && not (is_top_like A)} (fits l l A) (refl, n)) answered
content_some (f_left f) = some_left _ (content_some f)
content_some (f_right f) = some_right _ (content_some f)

-- the parts of a typed term that run are typed too
pub anno_typed : {e : Term} {A : Ty} → HasType [] (anno e A) → HasType [] e
anno_typed (B, t_anno t b) = (_, t)

app_typed : {e f : Term} → HasType [] (app e f) → HasType [] e × HasType [] f
app_typed (A, t_app t a u b) = ((_, t), (_, u))

merge_typed : {e f : Term} → HasType [] (merge e f) → HasType [] e × HasType [] f
merge_typed (A, t) = let (B, C, u, w) = typed_halves t in ((B, u), (C, w))

pub rcd_typed : {l : ℕ} {e : Term} → HasType [] (rcd l e) → HasType [] e
rcd_typed (A, t_rcd t) = (_, t)

proj_typed : {l : ℕ} {e : Term} → HasType [] (proj l e) → HasType [] e
proj_typed (A, t_proj t p) = (_, t)

sum_typed : {e f : Term} → HasType [] (sum e f) → HasType [] e × HasType [] f
sum_typed (A, t_sum t b u c) = ((_, t), (_, u))

choice_typed : {e f g : Term} → HasType [] (choice e f g) → HasType [] e
choice_typed (A, t_choice t b u c s a) = (_, t)

-- there is an answer, and if e has a type, it is f
data Meets (e f : Term) : Option Term → Type 0 where
  meets : {g : Term} → (HasType [] e → g ≡ f) → Meets e f (some g)

answer_of : {e f : Term} {r : Option Term} → Meets e f r → (g : Term) × (r ≡ some g)
answer_of (meets {g} p) = (g, refl)

met : {e f : Term} {r : Option Term} → Meets e f r → HasType [] e → r ≡ some f
met (meets p) t = ap some (p t)

-- of e, from a part d
meets_part : {d e f : Term} {r : Option Term} → (HasType [] e → HasType [] d) → Meets d f r → Meets e f r
meets_part k (meets p) = meets (λ t. p (k t))

meets_within : {d e f : Term} {r : Option Term} (F : Term → Term) → (HasType [] e → HasType [] d) → Meets d f r → Meets e (F f) (map F r)
meets_within F k (meets p) = meets (λ t. ap F (p (k t)))

cast_meets : {v x : Term} {A : Ty} → Cast v A x → Meets v x (cast A v)
cast_meets c = let (y, p) = cast_complete c in rw p (meets (λ t. cast_unique t.1 (cast_sound (cast_from c).1 p) c))

read_meets : (h : ℕ) {l : ℕ} {v w x : Term} {A : Ty} → Value (merge v w) A → Step h (proj l (merge v w)) x → Answered (read_parts l (merge v w)) →
    Meets (proj l (merge v w)) x (read_parts l (merge v w))
read_meets h {l} v s a =
    let (y, p) = the_answer a in
    rw p (meets (λ t. read_unique t.1 v (answers_some (rw p at (merge_answers {h = h} l v))) s))

add_meets : (h : ℕ) {v w : Term} {i j : ℤ} {r s : Option Term} → Meets v (lit i) r → Meets w (lit j) s →
    Meets (sum v w) (lit (hold h (i +ℤ j))) (add h r s)
unfolding add number_of
add_meets h (meets p) (meets q) =
    meets (λ t. let (a, b) = sum_typed t in ap₂ (λ x y. lit (hold h (number_of x +ℤ number_of y))) (p a) (q b))

next_meets : {h : ℕ} {e f : Term} → Step h e f → Meets e f (next h e)
unfolding next apply project read_parts top_value choose number_of is_value
next_meets (s_app_left s) = rw (step_false s, next) (meets_within _ (λ t. (app_typed t).0) (next_meets s))
next_meets (s_app_right v s) = rw (value_true v, step_false s, next) (meets_within _ (λ t. (app_typed t).1) (next_meets s))
next_meets (s_merge_left s) = rw (step_false s, next) (meets_within _ (λ t. (merge_typed t).0) (next_meets s))
next_meets (s_merge_right v s) = rw (value_true v, next) (meets_within _ (λ t. (merge_typed t).1) (next_meets s))
next_meets (s_anno s) = rw (step_false s, next) (meets_within _ anno_typed (next_meets s))
next_meets (s_rcd s) = meets_within _ rcd_typed (next_meets s)
next_meets (s_proj s) = rw (step_false s, next) (meets_within _ proj_typed (next_meets s))
next_meets (s_cast c) = rw (value_true (cast_from c).1, next) (meets_part anno_typed (cast_meets c))
next_meets (s_beta c) = rw (value_true (cast_from c).1, next) (meets_within _ (λ t. (app_typed t).1) (cast_meets c))
next_meets (s_app_unit v) = rw (value_true v, next) (meets (λ t. refl))
next_meets s_proj_unit = meets (λ t. refl)
next_meets (s_proj_rcd {l} v) = rw (value_true v, eq-eqb l l refl, next) (meets (λ t. refl))
next_meets {h} (s_proj_part v f) = rw (value_true v, next) (read_meets h v (s_proj_part v f) (some_left _ (content_some f)))
next_meets {h} (s_proj_none {l} {A} v n t) =
    rw (value_true v, next)
    (read_meets h v (s_proj_none v n t) (some_right _ (rw (type_of_says v, (top_part_says l A).1 (n, t)) answered)))
next_meets s_fix = meets (λ t. refl)
next_meets (s_sum_left s) = rw (step_false s, next) (meets_within _ (λ t. (sum_typed t).0) (next_meets s))
next_meets (s_sum_right v s) = rw (value_true v, step_false s, next) (meets_within _ (λ t. (sum_typed t).1) (next_meets s))
next_meets {h} (s_sum c d) = rw (value_true (cast_from c).1, value_true (cast_from d).1, next) (add_meets h (cast_meets c) (cast_meets d))
next_meets (s_choice_first s) = rw (step_false s, next) (meets_within _ choice_typed (next_meets s))
next_meets (s_choice c) = rw (value_true (cast_from c).1, next) (meets_within _ choice_typed (cast_meets c))

pub next_complete : {h : ℕ} {e f : Term} → Step h e f → (g : Term) × (next h e ≡ some g)
next_complete s = answer_of (next_meets s)

-- cast answers a typed value's one reading, next a typed term's one successor
pub cast_says : {v : Term} {A B : Ty} (x : Term) → Typed [] v B → IsValue v → (cast A v ≡ some x) ↔ Cast v A x
cast_says x t w = (cast_sound w.1, λ c. met (cast_meets c) (_, t))

pub next_says : {e : Term} {A : Ty} (h : ℕ) (f : Term) → Typed [] e A → (next h e ≡ some f) ↔ Step h e f
next_says {e} h f t = (next_sound h e f, λ s. met (next_meets s) (_, t))

-- 5.1, with both halves of every merge open
pub step_unique : {h : ℕ} {e f g : Term} {A : Ty} → Typed [] e A → Step h e f → Step h e g → f ≡ g
step_unique {h} {e} {f} {g} t s s' =
    let p = (next_says h f t).1 s in
    let q = (next_says h g t).1 s' in cc
