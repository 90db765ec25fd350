-- A term without sums takes the same steps at every range, through terms without sums. Assumes nothing.
use Prim.Native.Nat.{ℕ, suc}
use mathlib.Core.Logic.{◌↔◌}
use lib.Dec.{eqb}
use Rattle.calculus.specs.Syntax.{Ty, Term, var, lit, unit, anno, app, lam, merge, fix, rcd, proj, sum, choice, substitute}
use Rattle.calculus.specs.Numbers.{NoSum}
use Rattle.calculus.specs.TypedReduction.{Cast, c_lit, c_top, c_arrow, c_rcd, c_left, c_right, c_both}
use Rattle.calculus.specs.Fields.{HasField, f_here, f_left, f_right}
use Rattle.calculus.specs.Step.{Step, s_app_left, s_app_right, s_merge_left, s_merge_right, s_anno, s_rcd, s_proj, s_cast, s_beta}
use Rattle.calculus.specs.Step.{s_app_unit, s_proj_unit, s_proj_rcd, s_proj_part, s_proj_none, s_fix}
use Rattle.calculus.specs.Step.{s_sum_left, s_sum_right, s_sum, s_choice_first, s_choice, Reaches, r_zero, r_suc}
use Rattle.calculus.proofs.Bools.{by_test}
use Rattle.calculus.proofs.Numbers.{chosen_either}

cast_without : {v x : Term} {A : Ty} → Cast v A x → NoSum v → NoSum x
cast_without c_lit n = tt
cast_without (c_top v o t) n = tt
cast_without (c_arrow u b d) n = n
cast_without (c_rcd u c) n = cast_without c n
cast_without (c_left w o c) n = cast_without c n.0
cast_without (c_right v o c) n = cast_without c n.1
cast_without (c_both c d) n = (cast_without c n, cast_without d n)

substitute_without : (k : ℕ) (s e : Term) → NoSum s → NoSum e → NoSum (substitute k s e)
unfolding substitute
substitute_without k s (var n) p q = by_test NoSum (eqb n k) {x = s} {y = var n} (λ t. p) (λ t. q)
substitute_without k s (lit i) p q = tt
substitute_without k s unit p q = tt
substitute_without k s (anno e A) p q = substitute_without k s e p q
substitute_without k s (app e f) p q = (substitute_without k s e p q.0, substitute_without k s f p q.1)
substitute_without k s (lam e A B) p q = substitute_without (suc k) s e p q
substitute_without k s (merge e f) p q = (substitute_without k s e p q.0, substitute_without k s f p q.1)
substitute_without k s (fix e A) p q = substitute_without (suc k) s e p q
substitute_without k s (rcd l e) p q = substitute_without k s e p q
substitute_without k s (proj l e) p q = substitute_without k s e p q
substitute_without k s (sum e f) p q = absurd q
substitute_without k s (choice e f g) p q =
    (substitute_without k s e p q.0, substitute_without k s f p q.1, substitute_without k s g p q.2)

content_without : {l : ℕ} {v x : Term} → HasField l v x → NoSum v → NoSum x
content_without (f_here v t) n = n
content_without (f_left h) n = content_without h n.0
content_without (f_right h) n = content_without h n.1

-- the same step at any two ranges
pub step_without : {h k : ℕ} {e f : Term} → NoSum e → Step h e f → Step k e f × NoSum f
step_without n (s_app_left s) = let (t, m) = step_without n.0 s in (s_app_left t, (m, n.1))
step_without n (s_app_right v s) = let (t, m) = step_without n.1 s in (s_app_right v t, (n.0, m))
step_without n (s_merge_left s) = let (t, m) = step_without n.0 s in (s_merge_left t, (m, n.1))
step_without n (s_merge_right v s) = let (t, m) = step_without n.1 s in (s_merge_right v t, (n.0, m))
step_without n (s_anno s) = let (t, m) = step_without n s in (s_anno t, m)
step_without n (s_rcd s) = let (t, m) = step_without n s in (s_rcd t, m)
step_without n (s_proj s) = let (t, m) = step_without n s in (s_proj t, m)
step_without n (s_cast c) = (s_cast c, cast_without c n)
step_without n (s_beta {e} {v} {x} c) = (s_beta c, substitute_without 0 x e (cast_without c n.1) n.0)
step_without n (s_app_unit v) = (s_app_unit v, tt)
step_without n s_proj_unit = (s_proj_unit, tt)
step_without n (s_proj_rcd v) = (s_proj_rcd v, n)
step_without n (s_proj_part v c) = (s_proj_part v c, content_without c n)
step_without n (s_proj_none v o t) = (s_proj_none v o t, tt)
step_without n (s_fix {e} {A}) = (s_fix, substitute_without 0 (fix e A) e n n)
step_without n (s_sum_left s) = absurd n
step_without n (s_sum_right v s) = absurd n
step_without n (s_sum c d) = absurd n
step_without n (s_choice_first s) = let (t, m) = step_without n.0 s in (s_choice_first t, (m, n.1, n.2))
step_without n (s_choice {b = b} {c = c} {i = i} d) = (s_choice d, chosen_either NoSum i b c n.1 n.2)

pub reaches_without : {h k n : ℕ} {e f : Term} → NoSum e → Reaches h n e f → Reaches k n e f × NoSum f
reaches_without m r_zero = (r_zero, m)
reaches_without m (r_suc r s) =
    let (q, o) = reaches_without m r in
    let (t, p) = step_without o s in
    (r_suc q t, p)

-- so that the terms reached are the same
pub reaches_alike : {h k n : ℕ} {e f : Term} → NoSum e → Reaches h n e f ↔ Reaches k n e f
reaches_alike m = (λ r. (reaches_without m r).0, λ r. (reaches_without m r).0)
