-- The executable tests and readings of values answer exactly what the relations say; and the equations by which the tests and
-- readings compute on merges. Assumes nothing.
use Prim.Native.Nat.{ℕ}
use mathlib.Core.Path.{◌≡◌, refl, ◌∙◌, ap₂}
use mathlib.Core.Logic.Iff
use mathlib.Core.Logic.{◌↔◌, by_cases}
use mathlib.Core.Bool.{Bool, ◌&&◌, cond}
use mathlib.Core.Option.{Option, none, some, map, or_else}
use borrow.Author.Tests.{eq-eqb}
use lib.Dec.{T, eqb}
use Rattle.calculus.specs.Syntax.{Ty, int, top, arrow, inter, field, Term, var, lit, unit, anno, app, lam, merge, fix, rcd, proj, sum, choice}
use Rattle.calculus.specs.Syntax.{Value, v_lit, v_unit, v_lam, v_merge, v_rcd, IsValue}
use Rattle.calculus.specs.Subtyping.{TopLike, Ordinary}
use Rattle.calculus.specs.TypedReduction.{Cast, c_lit, c_top, c_arrow, c_rcd, c_left, c_right, c_both}
use Rattle.calculus.specs.Consistency.{Consistent, ConsistentByList}
use Rattle.calculus.specs.Decide.{is_below, is_value, is_consistent, each_part}
use Rattle.calculus.specs.Evaluate.{merge_both, first_part, cast_int, cast_arrow, cast_field, cast}
use Rattle.calculus.proofs.Bools.{T_same, by_test, and_says, T_and, and_exchange, eqb_says}
use Rattle.calculus.proofs.Subtyping.{top_like_dec}
use Rattle.calculus.proofs.Decisions.{is_below_says, is_top_like_true, is_top_like_false, is_below_true}
use Rattle.calculus.proofs.Consistency.{between, list→consistent, consistent_sym}
pub use Rattle.calculus.proofs.Consistency.{same_term_says, same_type_says}

is_value_sound : (e : Term) → T (is_value e) → IsValue e
unfolding is_value
is_value_sound (var n) t = absurd t
is_value_sound (lit i) t = (int, v_lit)
is_value_sound unit t = (top, v_unit)
is_value_sound (anno e A) t = absurd t
is_value_sound (app e f) t = absurd t
is_value_sound (lam e A B) t = (arrow A B, v_lam)
is_value_sound (merge e f) t =
    let (p, q) = (T_and (is_value e) (is_value f)).0 t in
    let (A, v) = is_value_sound e p in
    let (B, w) = is_value_sound f q in
    (inter A B, v_merge v w)
is_value_sound (fix e A) t = absurd t
is_value_sound (rcd l e) t = let (A, v) = is_value_sound e t in (field l A, v_rcd v)
is_value_sound (proj l e) t = absurd t
is_value_sound (sum e f) t = absurd t
is_value_sound (choice e f g) t = absurd t

is_value_complete : {e : Term} {A : Ty} → Value e A → T (is_value e)
unfolding is_value
is_value_complete v_lit = tt
is_value_complete v_unit = tt
is_value_complete v_lam = tt
is_value_complete (v_merge {v = e} {w = f} v w) = (T_and (is_value e) (is_value f)).1 (is_value_complete v, is_value_complete w)
is_value_complete (v_rcd v) = is_value_complete v

pub is_value_says : (e : Term) → T (is_value e) ↔ IsValue e
is_value_says e = (is_value_sound e, λ v. is_value_complete v.1)

pub is_consistent_says : {v w : Term} {A B : Ty} → Value v A → Value w B → T (is_consistent v w) ↔ ConsistentByList v w
is_consistent_says v w = ((between v w).listed, λ k. (between v w).passes (list→consistent k))

-- the same of the specification
pub is_consistent_means : {v w : Term} {A B : Ty} → Value v A → Value w B → T (is_consistent v w) ↔ Consistent v w
is_consistent_means v w = (λ t. list→consistent ((between v w).listed t), (between v w).passes)

-- cast, by the head of the type
pub cast_top : (A : Ty) (v : Term) → Ordinary A → TopLike A → cast A v ≡ some unit
unfolding cast
cast_top int v o t = absurd t
cast_top top v o t = refl
cast_top (arrow C D) v o t = rw (is_top_like_true D t, cast)
cast_top (inter A B) v o t = absurd o
cast_top (field l A) v o t = rw (is_top_like_true A t, cast)

pub cast_arrow_lem : (C D : Ty) (v : Term) → ¬ TopLike D → cast (arrow C D) v ≡ first_part (cast_arrow C D) v
unfolding cast
cast_arrow_lem C D v n = rw (is_top_like_false D n, cast)

pub cast_field_lem : (l : ℕ) (A : Ty) (v : Term) → ¬ TopLike A → cast (field l A) v ≡ first_part (cast_field l (cast A)) v
unfolding cast
cast_field_lem l A v n = rw (is_top_like_false A n, cast)

-- a merge is read from its left half where that can be, else from its right
pub cast_merge : (A : Ty) (v w : Term) → Ordinary A → ¬ TopLike A → cast A (merge v w) ≡ or_else (cast A v) (cast A w)
unfolding cast first_part
cast_merge int v w o n = refl
cast_merge top v w o n = absurd (n tt)
cast_merge (arrow C D) v w o n = rw (cast_arrow_lem C D (merge v w) n, cast_arrow_lem C D v n, cast_arrow_lem C D w n)
cast_merge (inter A B) v w o n = absurd o
cast_merge (field l A) v w o n = rw (cast_field_lem l A (merge v w) n, cast_field_lem l A v n, cast_field_lem l A w n)

-- the answer, if any, satisfies P
pub data Answers (P : Term → Type 0) : Option Term → Type 0 where
  nothing : Answers P none
  answer : {e : Term} → P e → Answers P (some e)

pub answers_some : {P : Term → Type 0} {e : Term} → Answers P (some e) → P e
answers_some (answer p) = p

pub answers_within : {P Q : Term → Type 0} {r : Option Term} (f : Term → Term) → Answers P r → ((e : Term) → P e → Q (f e)) → Answers Q (map f r)
answers_within f nothing k = nothing
answers_within f (answer {e} p) k = answer (k e p)

pub answers_either : {P Q R : Term → Type 0} {r s : Option Term} → Answers P r → Answers Q s →
    ((e : Term) → P e → R e) → ((e : Term) → Q e → R e) → Answers R (or_else r s)
unfolding or_else
answers_either nothing nothing f g = nothing
answers_either nothing (answer {e} q) f g = answer (g e q)
answers_either (answer {e} p) s f g = answer (f e p)

answers_both : {v : Term} {A B : Ty} {r s : Option Term} → Answers (Cast v A) r → Answers (Cast v B) s → Answers (Cast v (inter A B)) (merge_both r s)
unfolding merge_both
answers_both nothing s = nothing
answers_both (answer {e} c) s = answers_within (merge e) s (λ f d. c_both c d)

pub answers_if : {P : Term → Type 0} {r : Option Term} (b : Bool) → (T b → Answers P r) → Answers P (cond b r none)
answers_if {P} b k = by_test (Answers P) b k (λ n. nothing)

-- what f answers to a value is a reading under A
abbrev pub Reads : Ty → (Term → Option Term) → Type 0
Reads A f = (v : Term) (B : Ty) → Value v B → Answers (Cast v A) (f v)

parts_read : {A : Ty} → Ordinary A → (f : Term → Option Term) → Reads A f → Reads A (first_part f)
unfolding first_part
parts_read o f k v B v_lit = k _ _ v_lit
parts_read o f k v B v_unit = k _ _ v_unit
parts_read o f k v B v_lam = k _ _ v_lam
parts_read o f k v B (v_merge u w) = answers_either (parts_read o f k _ _ u) (parts_read o f k _ _ w) (λ x. c_left w o) (λ x. c_right u o)
parts_read o f k v B (v_rcd u) = k _ _ (v_rcd u)

int_reads : Reads int cast_int
unfolding cast_int
int_reads v B v_lit = answer c_lit
int_reads v B v_unit = nothing
int_reads v B v_lam = nothing
int_reads v B (v_merge u w) = nothing
int_reads v B (v_rcd u) = nothing

arrow_reads : (C D : Ty) → ¬ TopLike D → Reads (arrow C D) (cast_arrow C D)
unfolding cast_arrow
arrow_reads C D n v B v_lit = nothing
arrow_reads C D n v B v_unit = nothing
arrow_reads C D n v E (v_lam {A} {B}) = answers_if (is_below C A && is_below B D) λ t.
    let (b, d) = (and_says (is_below C A) (is_below B D) (is_below_says C A) (is_below_says B D)).0 t in answer (c_arrow n b d)
arrow_reads C D n v B (v_merge u w) = nothing
arrow_reads C D n v B (v_rcd u) = nothing

field_reads : (l : ℕ) (A : Ty) → ¬ TopLike A → (f : Term → Option Term) → Reads A f → Reads (field l A) (cast_field l f)
unfolding cast_field
field_reads l A n f k v B v_lit = nothing
field_reads l A n f k v B v_unit = nothing
field_reads l A n f k v B v_lam = nothing
field_reads l A n f k v B (v_merge u w) = nothing
field_reads l A n f k v B (v_rcd {l = m} w) = answers_if (eqb l m) λ t.
    let e : l ≡ m = (eqb_says l m).0 t in
    rw (← e) (answers_within (rcd l) (k _ _ w) (λ x. c_rcd n))

-- under an ordinary type, cast reads the parts by f unless the type is top-like
ordinary_reads : (A : Ty) → Ordinary A → (f : Term → Option Term) → ((v : Term) → ¬ TopLike A → cast A v ≡ first_part f v) →
    (¬ TopLike A → Reads A f) → Reads A (cast A)
ordinary_reads A o f e k v B w =
    by_cases (top_like_dec A) (λ t. rw (cast_top A v o t) (answer (c_top w o t))) (λ n. rw (e v n) (parts_read o f (k n) v B w))

-- what cast answers is a reading, and it answers wherever there is one
pub cast_reads : (A : Ty) → Reads A (cast A)
unfolding cast
cast_reads int = parts_read tt cast_int int_reads
cast_reads top = λ v B w. answer (c_top w tt tt)
cast_reads (arrow C D) = ordinary_reads (arrow C D) tt (cast_arrow C D) (cast_arrow_lem C D) (arrow_reads C D)
cast_reads (inter A B) = λ v C w. answers_both (cast_reads A v C w) (cast_reads B v C w)
cast_reads (field l A) =
    ordinary_reads (field l A) tt (cast_field l (cast A)) (cast_field_lem l A) (λ n. field_reads l A n (cast A) (cast_reads A))

pub cast_sound : {v x : Term} {A B : Ty} → Value v B → cast A v ≡ some x → Cast v A x
cast_sound {v} {A} {B} w e = answers_some (rw e at (cast_reads A v B w))

-- there is an answer
pub data Answered : Option Term → Type 0 where
  answered : {e : Term} → Answered (some e)

pub the_answer : {r : Option Term} → Answered r → (e : Term) × (r ≡ some e)
the_answer (answered {e}) = (e, refl)

pub some_within : {r : Option Term} (f : Term → Term) → Answered r → Answered (map f r)
some_within f answered = answered

pub some_left : {r : Option Term} (s : Option Term) → Answered r → Answered (or_else r s)
unfolding or_else
some_left s answered = answered

pub some_right : (r : Option Term) {s : Option Term} → Answered s → Answered (or_else r s)
unfolding or_else
some_right none h = h
some_right (some e) h = answered

some_both : {r s : Option Term} → Answered r → Answered s → Answered (merge_both r s)
unfolding merge_both
some_both (answered {e}) h = some_within (merge e) h

-- the reading of a merge from one half
some_merge : (v w : Term) (A : Ty) → Ordinary A → Answered (or_else (cast A v) (cast A w)) → Answered (cast A (merge v w))
some_merge v w A o h =
    by_cases (top_like_dec A) (λ t. rw (cast_top A (merge v w) o t) answered) (λ n. rw (cast_merge A v w o n) h)

pub cast_some : {v x : Term} {A : Ty} → Cast v A x → Answered (cast A v)
unfolding cast first_part cast_int cast_arrow cast_field
cast_some c_lit = answered
cast_some {v} {A} (c_top w o t) = rw (cast_top A v o t) answered
cast_some {v} (c_arrow {C} {D} n b d) = rw (cast_arrow_lem C D v n, is_below_true b, is_below_true d) answered
cast_some (c_rcd {l} {v} {A} n c) = rw (cast_field_lem l A (rcd l v) n, eq-eqb l l refl) (some_within (rcd l) (cast_some c))
cast_some (c_left {v} {w} {A} u o c) = some_merge v w A o (some_left (cast A w) (cast_some c))
cast_some (c_right {v} {w} {A} u o c) = some_merge v w A o (some_right (cast A v) (cast_some c))
cast_some (c_both c d) = some_both (cast_some c) (cast_some d)

pub cast_complete : {v x : Term} {A : Ty} → Cast v A x → (y : Term) × (cast A v ≡ some y)
cast_complete c = the_answer (cast_some c)

-- Laws of the tests.

pub is_consistent_sym : {v w : Term} {A B : Ty} → Value v A → Value w B → is_consistent v w ≡ is_consistent w v
is_consistent_sym a b = T_same (is_consistent_means a b) (Iff.trans (is_consistent_means b a) (consistent_sym, consistent_sym))

pub is_consistent_merge_right : {v : Term} {A : Ty} → Value v A → (w u : Term) → is_consistent v (merge w u) ≡ (is_consistent v w && is_consistent v u)
unfolding is_consistent each_part
is_consistent_merge_right v_lit w u = refl
is_consistent_merge_right v_unit w u = refl
is_consistent_merge_right v_lam w u = refl
is_consistent_merge_right (v_merge {v = x} {w = y} a b) w u =
    ap₂ ◌&&◌ (is_consistent_merge_right a w u) (is_consistent_merge_right b w u)
    ∙ and_exchange (is_consistent x w) (is_consistent x u) (is_consistent y w) (is_consistent y u)
is_consistent_merge_right (v_rcd v) w u = refl
