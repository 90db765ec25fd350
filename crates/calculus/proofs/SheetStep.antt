-- Of a sheet every step takes one annotation, application, field read or sum away, and nothing else that counts: what is read, applied or added is a value by then. A reading is
-- no larger than its type, so every step makes the term smaller. Assumes nothing.
use Prim.Native.Nat.{ℕ, ◌≤◌, ◌<◌}
use native.Mathlib.Omega.{arith}
use mathlib.Core.Path.{◌≡◌, refl}
use mathlib.Core.Logic.{◌↔◌}
use mathlib.Core.Bool.{true}
use mathlib.Core.List.{List, []}
use lib.Dec.{T}
use Rattle.calculus.specs.Syntax.{Ty, int, top, inter, field, Term, var, lit, unit, anno, app, lam, merge, fix, rcd, proj, sum, choice, size_type, size}
use Rattle.calculus.specs.Syntax.{Value, v_lit, v_unit, v_lam, v_merge, v_rcd, IsValue}
use Rattle.calculus.specs.TypedReduction.{Cast, c_lit, c_top, c_arrow, c_rcd, c_left, c_right, c_both}
use Rattle.calculus.specs.Fields.{HasField, f_here, f_left, f_right}
use Rattle.calculus.specs.Step.{Step, s_app_left, s_app_right, s_merge_left, s_merge_right, s_anno, s_rcd, s_proj, s_cast, s_beta}
use Rattle.calculus.specs.Step.{s_app_unit, s_proj_unit, s_proj_rcd, s_proj_part, s_proj_none, s_fix}
use Rattle.calculus.specs.Step.{s_sum_left, s_sum_right, s_sum, s_choice_first, s_choice}
use Rattle.calculus.specs.RefusalPaths.{At, here, in_anno, in_left, in_right, in_body, in_first, in_second, in_fix, in_content, in_read}
use Rattle.calculus.specs.RefusalPaths.{in_sum_left, in_sum_right, in_tested, in_zero, in_other}
use Rattle.calculus.specs.Sheet.{Sheet, is_sheet, count_steps, Barred, variable, function, fixpoint, a_choice, After}
use Rattle.calculus.proofs.Bools.{and_says}
use Rattle.calculus.proofs.Subtyping.{size_positive}
use Rattle.calculus.proofs.TypedReduction.{cast_from}

-- ---- the test, and the parts

yes_says : T true ↔ Unit {0}
yes_says = (λ t. tt, λ t. tt)

no_says : ⊥ ↔ ⊥
no_says = (λ t. t, λ t. t)

pub is_sheet_says : (e : Term) → T (is_sheet e) ↔ Sheet e
unfolding is_sheet
is_sheet_says (var n) = no_says
is_sheet_says (lit i) = yes_says
is_sheet_says unit = yes_says
is_sheet_says (anno e A) = is_sheet_says e
is_sheet_says (app e f) = and_says (is_sheet e) (is_sheet f) (is_sheet_says e) (is_sheet_says f)
is_sheet_says (lam e A B) = no_says
is_sheet_says (merge e f) = and_says (is_sheet e) (is_sheet f) (is_sheet_says e) (is_sheet_says f)
is_sheet_says (fix e A) = no_says
is_sheet_says (rcd l e) = is_sheet_says e
is_sheet_says (proj l e) = is_sheet_says e
is_sheet_says (sum e f) = and_says (is_sheet e) (is_sheet f) (is_sheet_says e) (is_sheet_says f)
is_sheet_says (choice e f g) = no_says

pub not_barred : {f : Term} → Sheet f → ¬ Barred f
not_barred s variable = s
not_barred s function = s
not_barred s fixpoint = s
not_barred s a_choice = s

-- a part of a sheet is one
pub part_sheet : {e f : Term} {p : List ℕ} → Sheet e → At e p f → Sheet f
part_sheet s here = s
part_sheet s (in_anno a) = part_sheet s a
part_sheet s (in_left a) = part_sheet s.0 a
part_sheet s (in_right a) = part_sheet s.1 a
part_sheet s (in_body a) = absurd s
part_sheet s (in_first a) = part_sheet s.0 a
part_sheet s (in_second a) = part_sheet s.1 a
part_sheet s (in_fix a) = absurd s
part_sheet s (in_content a) = part_sheet s a
part_sheet s (in_read a) = part_sheet s a
part_sheet s (in_sum_left a) = part_sheet s.0 a
part_sheet s (in_sum_right a) = part_sheet s.1 a
part_sheet s (in_tested a) = absurd s
part_sheet s (in_zero a) = absurd s
part_sheet s (in_other a) = absurd s

-- no part of e is barred
abbrev NoneBarred : Term → Type 0
NoneBarred e = (p : List ℕ) (f : Term) → At e p f → ¬ Barred f

pub from_parts : (e : Term) → NoneBarred e → Sheet e
from_parts (var n) s = s [] (var n) here variable
from_parts (lit i) s = tt
from_parts unit s = tt
from_parts (anno e A) s = from_parts e (λ p f a. s _ f (in_anno a))
from_parts (app e f) s = (from_parts e (λ p g a. s _ g (in_left a)), from_parts f (λ p g a. s _ g (in_right a)))
from_parts (lam e A B) s = s [] (lam e A B) here function
from_parts (merge e f) s = (from_parts e (λ p g a. s _ g (in_first a)), from_parts f (λ p g a. s _ g (in_second a)))
from_parts (fix e A) s = s [] (fix e A) here fixpoint
from_parts (rcd l e) s = from_parts e (λ p f a. s _ f (in_content a))
from_parts (proj l e) s = from_parts e (λ p f a. s _ f (in_read a))
from_parts (sum e f) s = (from_parts e (λ p g a. s _ g (in_sum_left a)), from_parts f (λ p g a. s _ g (in_sum_right a)))
from_parts (choice e f g) s = s [] (choice e f g) here a_choice

-- ---- values

value_count : {v : Term} {A : Ty} → Sheet v → Value v A → count_steps v ≡ 0
unfolding count_steps
value_count s v_lit = refl
value_count s v_unit = refl
value_count s v_lam = absurd s
value_count s (v_merge v w) = omega (arith, value_count s.0 v, value_count s.1 w)
value_count s (v_rcd v) = value_count s v

none_left : (e : Term) → Sheet e → count_steps e ≡ 0 → IsValue e
unfolding count_steps
none_left (lit i) s z = (int, v_lit)
none_left unit s z = (top, v_unit)
none_left (anno e A) s z = absurd (omega (arith, z))
none_left (app e f) s z = absurd (omega (arith, z))
none_left (merge e f) s z =
    let v = none_left e s.0 (omega (arith, z)) in
    let w = none_left f s.1 (omega (arith, z)) in
    (inter v.0 w.0, v_merge v.1 w.1)
none_left (rcd l e) s z = let v = none_left e s z in (field l v.0, v_rcd v.1)
none_left (proj l e) s z = absurd (omega (arith, z))
none_left (sum e f) s z = absurd (omega (arith, z))
none_left (choice e f g) s z = absurd s
none_left (var _) s z = elim s [ ]
none_left (lam _ _ _) s z = elim s [ ]
none_left (fix _ _) s z = elim s [ ]

pub values : (e : Term) → Sheet e → IsValue e ↔ (count_steps e ≡ 0)
values e s = (λ v. value_count s v.1, none_left e s)

-- ---- sizes

pub count_less : (e : Term) → count_steps e < size e
unfolding count_steps size
count_less (var n) = omega arith
count_less (lit i) = omega arith
count_less unit = omega arith
count_less (anno e A) = omega (arith, count_less e)
count_less (app e f) = omega (arith, count_less e, count_less f)
count_less (lam e A B) = omega (arith, count_less e)
count_less (merge e f) = omega (arith, count_less e, count_less f)
count_less (fix e A) = omega (arith, count_less e)
count_less (rcd l e) = omega (arith, count_less e)
count_less (proj l e) = omega (arith, count_less e)
count_less (sum e f) = omega (arith, count_less e, count_less f)
count_less (choice e f g) = omega (arith, count_less e, count_less f, count_less g)

-- ---- a reading has the cells of its type at most

pub record Reading (x : Term) (n : ℕ) : Type 0 where
  pub sheet : Sheet x
  pub count : count_steps x ≡ 0
  pub small : size x ≤ n

reading : {v x : Term} {A : Ty} → Sheet v → Cast v A x → Reading x (size_type A)
unfolding count_steps size size_type
reading s c_lit = record { sheet = tt; count = refl; small = omega arith }
reading s (c_top {A = A} v o t) = record { sheet = tt; count = refl; small = size_positive A }
reading s (c_arrow n b d) = absurd s
reading s (c_rcd n c) = let r = reading s c in record { sheet = r.sheet; count = r.count; small = omega (arith, r.small) }
reading s (c_left w o c) = reading s.0 c
reading s (c_right v o c) = reading s.1 c
reading s (c_both c d) =
    let r = reading s c in
    let q = reading s d in
    record { sheet = (r.sheet, q.sheet); count = omega (arith, r.count, q.count); small = omega (arith, r.small, q.small) }

-- what is read of a value counts nothing
read_count : {v x : Term} {A : Ty} → Sheet v → Cast v A x → count_steps v ≡ 0
read_count s c = value_count s (cast_from c).1

content : {l : ℕ} {v x : Term} → Sheet v → count_steps v ≡ 0 → HasField l v x → Reading x (size v)
unfolding count_steps size
content s z (f_here v t) = record { sheet = s; count = z; small = omega arith }
content s z (f_left h) = let r = content s.0 (omega (arith, z)) h in record { sheet = r.sheet; count = r.count; small = omega (arith, r.small) }
content s z (f_right h) = let r = content s.1 (omega (arith, z)) h in record { sheet = r.sheet; count = r.count; small = omega (arith, r.small) }

-- ---- a step

pub sheet_step : {h : ℕ} {e f : Term} → Sheet e → Step h e f → After 1 e f
unfolding count_steps size
sheet_step s (s_app_left t) = let r = sheet_step s.0 t in record { sheet = (r.sheet, s.1); count = omega (arith, r.count); size_falls = omega (arith, r.size_falls) }
sheet_step s (s_app_right v t) = let r = sheet_step s.1 t in record { sheet = (s.0, r.sheet); count = omega (arith, r.count); size_falls = omega (arith, r.size_falls) }
sheet_step s (s_merge_left t) = let r = sheet_step s.0 t in record { sheet = (r.sheet, s.1); count = omega (arith, r.count); size_falls = omega (arith, r.size_falls) }
sheet_step s (s_merge_right v t) = let r = sheet_step s.1 t in record { sheet = (s.0, r.sheet); count = omega (arith, r.count); size_falls = omega (arith, r.size_falls) }
sheet_step s (s_anno t) = let r = sheet_step s t in record { sheet = r.sheet; count = omega (arith, r.count); size_falls = omega (arith, r.size_falls) }
sheet_step s (s_rcd t) = let r = sheet_step s t in record { sheet = r.sheet; count = r.count; size_falls = omega (arith, r.size_falls) }
sheet_step s (s_proj t) = let r = sheet_step s t in record { sheet = r.sheet; count = omega (arith, r.count); size_falls = omega (arith, r.size_falls) }
sheet_step s (s_cast c) = let r = reading s c in record { sheet = r.sheet; count = omega (arith, r.count, read_count s c); size_falls = omega (arith, r.small) }
sheet_step s (s_beta c) = absurd s.0
sheet_step s (s_app_unit v) = record { sheet = tt; count = omega (arith, value_count s.1 v); size_falls = omega arith }
sheet_step s s_proj_unit = record { sheet = tt; count = refl; size_falls = omega arith }
sheet_step s (s_proj_rcd v) = record { sheet = s; count = refl; size_falls = omega arith }
sheet_step s (s_proj_part v c) =
    let z = value_count s v in
    let r = content s z c in
    record { sheet = r.sheet; count = omega (arith, r.count, z); size_falls = omega (arith, r.small) }
sheet_step s (s_proj_none v n t) = record { sheet = tt; count = omega (arith, value_count s v); size_falls = omega arith }
sheet_step s s_fix = absurd s
sheet_step s (s_sum_left t) = let r = sheet_step s.0 t in record { sheet = (r.sheet, s.1); count = omega (arith, r.count); size_falls = omega (arith, r.size_falls) }
sheet_step s (s_sum_right v t) = let r = sheet_step s.1 t in record { sheet = (s.0, r.sheet); count = omega (arith, r.count); size_falls = omega (arith, r.size_falls) }
sheet_step s (s_sum {v = v} c d) = record { sheet = tt; count = omega (arith, read_count s.0 c, read_count s.1 d); size_falls = omega (arith, count_less v) }
sheet_step s (s_choice_first t) = absurd s
sheet_step s (s_choice c) = absurd s
