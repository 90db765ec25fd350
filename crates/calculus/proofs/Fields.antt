-- Fields found inside a merge: the test answers what the relations say, over the parts in any order, a runtime subtype has the field in the same part, and a
-- value with one such part has one content. Assumes nothing.
use Prim.Native.Nat.{ℕ, ◌≤◌}
use native.Mathlib.Omega.{arith}
use mathlib.Core.Path.{◌≡◌, refl, ap, subst}
use mathlib.Core.Logic.Iff
use mathlib.Core.Logic.{◌↔◌, inl, inr}
use mathlib.Core.Bool.{Bool, true, false, not, ◌&&◌, cond}
use lib.Dec.{T, eqb}
use Rattle.calculus.specs.Syntax.{Ty, int, top, arrow, inter, field, size_type, Term, rcd, Value, v_lit, v_unit, v_lam, v_merge, v_rcd}
use Rattle.calculus.specs.Subtyping.{TopLike}
use Rattle.calculus.specs.Fields.{NoField, OneField, o_here, o_left, o_right, SomeTopLike, HasField, f_here, f_left, f_right}
use Rattle.calculus.specs.Runtime.{Runtime, r_refl, r_top, r_arrow, r_inter, r_field}
use Rattle.calculus.specs.Decide.{is_top_like, FieldPart, no_part, top_part, more_parts, one_part, both_parts, field_part}
use Rattle.calculus.specs.Agreement.{SamePart, same_none, same_top, same_one, same_more}
use Rattle.calculus.proofs.Bools.{T_same, by_test, and_says, not_says, eqb_says}
use Rattle.calculus.proofs.Decisions.{is_top_like_says, is_top_like_true}
use Rattle.calculus.proofs.Runtime.{runtime_top_like, runtime_top_like'}
use Rattle.calculus.proofs.TypedReduction.{value_unique}

-- ---- one part, none or several: each rules out the others

pub one_not_none : {l : ℕ} {A C : Ty} → OneField l A C → ¬ NoField l A
one_not_none (o_here n) m = n (m refl)
one_not_none (o_left o n) m = one_not_none o m.0
one_not_none (o_right n o) m = one_not_none o m.1

-- the content of a record type
one_here : {l k : ℕ} {A C : Ty} → OneField l (field k A) C → A ≡ C
one_here (o_here n) = refl

pub one_unique : {l : ℕ} {A C D : Ty} → OneField l A C → OneField l A D → C ≡ D
one_unique (o_here n) o = one_here o
one_unique (o_left o n) (o_left p m) = one_unique o p
one_unique (o_left o n) (o_right m p) = absurd (one_not_none o m)
one_unique (o_right n o) (o_left p m) = absurd (one_not_none p n)
one_unique (o_right n o) (o_right m p) = one_unique o p

pub one_not_top_like : {l : ℕ} {A C : Ty} → OneField l A C → ¬ TopLike A
one_not_top_like (o_here n) t = n t
one_not_top_like (o_left o n) t = one_not_top_like o t.0
one_not_top_like (o_right n o) t = one_not_top_like o t.1

pub one_size : {l : ℕ} {A C : Ty} → OneField l A C → size_type C ≤ size_type A
unfolding size_type
one_size (o_here n) = omega arith
one_size (o_left o n) = let h = one_size o in omega arith
one_size (o_right n o) = let h = one_size o in omega arith

-- more than one part is a record of that label and not top-like
pub data Several : ℕ → Ty → Type 0 where
  m_left : {l : ℕ} {A B : Ty} → Several l A → Several l (inter A B)
  m_right : {l : ℕ} {A B : Ty} → Several l B → Several l (inter A B)
  m_both : {l : ℕ} {A B C D : Ty} → OneField l A C → OneField l B D → Several l (inter A B)

several_not_none : {l : ℕ} {A : Ty} → Several l A → ¬ NoField l A
several_not_none (m_left s) n = several_not_none s n.0
several_not_none (m_right s) n = several_not_none s n.1
several_not_none (m_both o p) n = one_not_none o n.0

several_not_one : {l : ℕ} {A C : Ty} → Several l A → ¬ OneField l A C
several_not_one (m_left s) (o_left o n) = several_not_one s o
several_not_one (m_left s) (o_right n o) = several_not_none s n
several_not_one (m_right s) (o_left o n) = several_not_none s n
several_not_one (m_right s) (o_right n o) = several_not_one s o
several_not_one (m_both p q) (o_left o n) = one_not_none q n
several_not_one (m_both p q) (o_right n o) = one_not_none p n

-- ---- the parts of an intersection, in any order

pub both_comm : (p q : FieldPart) → both_parts p q ≡ both_parts q p
unfolding both_parts
both_comm no_part no_part = refl
both_comm no_part top_part = refl
both_comm no_part more_parts = refl
both_comm no_part (one_part D) = refl
both_comm top_part no_part = refl
both_comm top_part top_part = refl
both_comm top_part more_parts = refl
both_comm top_part (one_part D) = refl
both_comm more_parts no_part = refl
both_comm more_parts top_part = refl
both_comm more_parts more_parts = refl
both_comm more_parts (one_part D) = refl
both_comm (one_part C) no_part = refl
both_comm (one_part C) top_part = refl
both_comm (one_part C) more_parts = refl
both_comm (one_part C) (one_part D) = refl

pub both_assoc : (p q r : FieldPart) → both_parts (both_parts p q) r ≡ both_parts p (both_parts q r)
unfolding both_parts
both_assoc no_part q r = refl
both_assoc more_parts q r = refl
both_assoc top_part no_part r = refl
both_assoc top_part top_part no_part = refl
both_assoc top_part top_part top_part = refl
both_assoc top_part top_part more_parts = refl
both_assoc top_part top_part (one_part E) = refl
both_assoc top_part more_parts r = refl
both_assoc top_part (one_part D) no_part = refl
both_assoc top_part (one_part D) top_part = refl
both_assoc top_part (one_part D) more_parts = refl
both_assoc top_part (one_part D) (one_part E) = refl
both_assoc (one_part C) no_part r = refl
both_assoc (one_part C) top_part no_part = refl
both_assoc (one_part C) top_part top_part = refl
both_assoc (one_part C) top_part more_parts = refl
both_assoc (one_part C) top_part (one_part E) = refl
both_assoc (one_part C) more_parts r = refl
both_assoc (one_part C) (one_part D) no_part = refl
both_assoc (one_part C) (one_part D) top_part = refl
both_assoc (one_part C) (one_part D) more_parts = refl
both_assoc (one_part C) (one_part D) (one_part E) = refl

-- ---- what each answer of field_part says, and that it answers so wherever that holds

abbrev pub Says : ℕ → Ty → FieldPart → Type 0
Says l A no_part = NoField l A × (¬ SomeTopLike A)
Says l A top_part = NoField l A × SomeTopLike A
Says l A more_parts = Several l A
Says l A (one_part C) = OneField l A C

both_say : (l : ℕ) (A B : Ty) (p q : FieldPart) → Says l A p → Says l B q → Says l (inter A B) (both_parts p q)
unfolding both_parts
both_say l A B no_part no_part (n, s) (m, t) = ((n, m), elim [ inl u ↦ s u | inr u ↦ t u ])
both_say l A B no_part top_part (n, s) (m, t) = ((n, m), inr t)
both_say l A B no_part more_parts (n, s) m = m_right m
both_say l A B no_part (one_part D) (n, s) o = o_right n o
both_say l A B top_part no_part (n, s) (m, t) = ((n, m), inl s)
both_say l A B top_part top_part (n, s) (m, t) = ((n, m), inl s)
both_say l A B top_part more_parts (n, s) m = m_right m
both_say l A B top_part (one_part D) (n, s) o = o_right n o
both_say l A B more_parts q m t = m_left m
both_say l A B (one_part C) no_part o (m, t) = o_left o m
both_say l A B (one_part C) top_part o (m, t) = o_left o m
both_say l A B (one_part C) more_parts o m = m_right m
both_say l A B (one_part C) (one_part D) o p = m_both o p

pub field_part_says : (l : ℕ) (A : Ty) → Says l A (field_part l A)
unfolding field_part
field_part_says l int = (tt, λ t. t)
field_part_says l top = (tt, tt)
field_part_says l (arrow A B) =
    by_test (Says l (arrow A B)) (is_top_like B) (λ t. (tt, (is_top_like_says B).0 t)) (λ n. (tt, λ t. n ((is_top_like_says B).1 t)))
field_part_says l (inter A B) = both_say l A B (field_part l A) (field_part l B) (field_part_says l A) (field_part_says l B)
field_part_says l (field k A) =
    by_test (Says l (field k A)) (is_top_like A) (λ t. let u = (is_top_like_says A).0 t in (λ e. u, u)) λ n.
    let proper : ¬ TopLike A = λ t. n ((is_top_like_says A).1 t) in
    by_test (Says l (field k A)) (eqb l k) (λ t. rw (← ((eqb_says l k).0 t)) (o_here proper)) (λ m. (λ e. absurd (m ((eqb_says l k).1 e)), proper))

one_answer : {l : ℕ} {A C : Ty} (p : FieldPart) → Says l A p → OneField l A C → p ≡ one_part C
one_answer no_part (n, s) o = absurd (one_not_none o n)
one_answer top_part (n, s) o = absurd (one_not_none o n)
one_answer more_parts m o = absurd (several_not_one m o)
one_answer (one_part D) p o = ap one_part (one_unique p o)

top_answer : (l : ℕ) (A : Ty) (p : FieldPart) → Says l A p → NoField l A × SomeTopLike A → p ≡ top_part
top_answer l A no_part (n, s) (m, t) = absurd (s t)
top_answer l A top_part h k = refl
top_answer l A more_parts m (n, t) = absurd (several_not_none m n)
top_answer l A (one_part C) o (n, t) = absurd (one_not_none o n)

pub one_part_says : (l : ℕ) (A C : Ty) → (field_part l A ≡ one_part C) ↔ OneField l A C
one_part_says l A C = (λ e. subst (Says l A) e (field_part_says l A), one_answer (field_part l A) (field_part_says l A))

pub top_part_says : (l : ℕ) (A : Ty) → (field_part l A ≡ top_part) ↔ (NoField l A × SomeTopLike A)
top_part_says l A = (λ e. subst (Says l A) e (field_part_says l A), top_answer l A (field_part l A) (field_part_says l A))

pub top_like_part : (l : ℕ) (A : Ty) → TopLike A → field_part l A ≡ top_part
unfolding field_part both_parts
top_like_part l int t = absurd t
top_like_part l top t = refl
top_like_part l (arrow A B) t = rw (is_top_like_true B t)
top_like_part l (inter A B) t = rw (top_like_part l A t.0, top_like_part l B t.1)
top_like_part l (field k A) t = rw (is_top_like_true A t)

-- the test of one record type, of label k over A: it is one of label l and not top-like
pub fits : (l k : ℕ) (A : Ty) → T (eqb l k && not (is_top_like A)) ↔ ((l ≡ k) × (¬ TopLike A))
fits l k A = and_says (eqb l k) (not (is_top_like A)) (eqb_says l k) (not_says (is_top_like A) (is_top_like_says A))

-- ---- a runtime subtype has the field in the same part

same_refl : (p : FieldPart) → SamePart p p
same_refl no_part = same_none
same_refl top_part = same_top
same_refl more_parts = same_more
same_refl (one_part C) = same_one r_refl

same_both : {p p' q q' : FieldPart} → SamePart p p' → SamePart q q' → SamePart (both_parts p q) (both_parts p' q')
unfolding both_parts
same_both same_none s = s
same_both same_top same_none = same_top
same_both same_top same_top = same_top
same_both same_top (same_one r) = same_one r
same_both same_top same_more = same_more
same_both (same_one r) same_none = same_one r
same_both (same_one r) same_top = same_one r
same_both (same_one r) (same_one s) = same_more
same_both (same_one r) same_more = same_more
same_both same_more s = same_more

same_cond : (b : Bool) {p p' q q' : FieldPart} → SamePart p p' → SamePart q q' → SamePart (cond b p q) (cond b p' q')
same_cond true r s = r
same_cond false r s = s

runtime_is_top_like : {A B : Ty} → Runtime A B → is_top_like A ≡ is_top_like B
runtime_is_top_like {A} {B} r = T_same (is_top_like_says A) (Iff.trans (is_top_like_says B) (runtime_top_like' r, runtime_top_like r))

pub fields_runtime : (l : ℕ) {A B : Ty} → Runtime A B → SamePart (field_part l A) (field_part l B)
unfolding field_part
fields_runtime l r_refl = same_refl _
fields_runtime l (r_top {A} t) = rw (top_like_part l A t) same_top
fields_runtime l (r_arrow {D} b r) = rw (runtime_is_top_like r) (same_cond (is_top_like D) same_top same_none)
fields_runtime l (r_inter r s) = same_both (fields_runtime l r) (fields_runtime l s)
fields_runtime l (r_field {l = k} {B} r) = rw (runtime_is_top_like r) (same_cond (is_top_like B) same_top (same_cond (eqb l k) (same_one r) same_none))

same_as_one : {l : ℕ} {A C : Ty} (p : FieldPart) → Says l A p → SamePart p (one_part C) → (D : Ty) × OneField l A D × Runtime D C
same_as_one (one_part D) o (same_one r) = (D, o, r)
same_as_one {l = l} {A = A} {C = C} no_part o x'' = elim x'' [ ]
same_as_one {l = l} {A = A} {C = C} top_part o x3 = elim x3 [ ]
same_as_one {l = l} {A = A} {C = C} more_parts o x4 = elim x4 [ ]

same_as_top : {p : FieldPart} → SamePart p top_part → p ≡ top_part
same_as_top same_top = refl

pub runtime_one : {l : ℕ} {A A' C : Ty} → Runtime A' A → OneField l A C → (C' : Ty) × OneField l A' C' × Runtime C' C
runtime_one {l} {A} {A'} {C} r o =
    same_as_one (field_part l A') (field_part_says l A') (subst (SamePart (field_part l A')) ((one_part_says l A C).1 o) (fields_runtime l r))

pub runtime_none : (l : ℕ) {A A' : Ty} → Runtime A' A → NoField l A × SomeTopLike A → NoField l A' × SomeTopLike A'
runtime_none l {A} {A'} r h = (top_part_says l A').0 (same_as_top (subst (SamePart (field_part l A')) ((top_part_says l A).1 h) (fields_runtime l r)))

-- ---- values: no part has the field, or one does

pub no_content : {l : ℕ} {v : Term} {A : Ty} → NoField l A → Value v A → (x : Term) → ¬ HasField l v x
no_content n (v_merge v w) x (f_left f) = no_content n.0 v x f
no_content n (v_merge v w) x (f_right f) = no_content n.1 w x f
no_content n (v_rcd v) x (f_here w m) = m (rw (value_unique w v) (n refl))
no_content {l = l} n (v_lit {i = i}) x x11 = elim x11 [ ]
no_content {l = l} n v_unit x x12 = elim x12 [ ]
no_content {l = l} n (v_lam {e = e} {A = A} {B = B}) x x13 = elim x13 [ ]

one_content : {l : ℕ} {v : Term} {A C : Ty} → OneField l A C → Value v A → (x : Term) × Value x C × HasField l v x
one_content (o_here n) (v_rcd v) = (_, v, f_here v n)
one_content (o_left o n) (v_merge v w) = let (x, u, f) = one_content o v in (x, u, f_left f)
one_content (o_right n o) (v_merge v w) = let (x, u, f) = one_content o w in (x, u, f_right f)

-- the content of a record
record_content : {l k : ℕ} {x y : Term} → HasField l (rcd k x) y → y ≡ x
record_content (f_here w m) = refl

only_content : {l : ℕ} {v y : Term} {A C : Ty} (o : OneField l A C) (u : Value v A) → HasField l v y → y ≡ (one_content o u).0
unfolding one_content
only_content (o_here n) (v_rcd v) f = record_content f
only_content (o_left o n) (v_merge v w) (f_left f) = only_content o v f
only_content (o_left o n) (v_merge v w) (f_right f) = absurd (no_content n w _ f)
only_content (o_right n o) (v_merge v w) (f_left f) = absurd (no_content n v _ f)
only_content (o_right n o) (v_merge v w) (f_right f) = only_content o w f

-- precisely one content, and it shows the type found
pub part_unique : {l : ℕ} {v : Term} {A C : Ty} → OneField l A C → Value v A →
    (x : Term) × Value x C × HasField l v x × ((y : Term) → HasField l v y → y ≡ x)
part_unique o v = let (x, u, f) = one_content o v in (x, u, f, λ y. only_content o v)
