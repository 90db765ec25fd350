-- Steps keep labels, indices and numbers within their fields: m is half of the range that the numbers fit, h of the one that sums are held to, which is
-- no wider. Assumes nothing.
use Prim.Native.Nat.{ℕ, suc, ◌≤◌, ◌<◌}
use native.Mathlib.Omega.{arith}
use lib.Dec.{eqb, lit<}
use lib.IntN.{◌+ℤ◌}
use Rattle.calculus.specs.Syntax.{Ty, Term, var, lit, unit, anno, app, lam, merge, fix, rcd, proj, sum, choice, substitute}
use Rattle.calculus.specs.TypedReduction.{Cast, c_lit, c_top, c_arrow, c_rcd, c_left, c_right, c_both}
use Rattle.calculus.specs.Fields.{HasField, f_here, f_left, f_right}
use Rattle.calculus.specs.Step.{Step, s_app_left, s_app_right, s_merge_left, s_merge_right, s_anno, s_rcd, s_proj, s_cast, s_beta}
use Rattle.calculus.specs.Step.{s_app_unit, s_proj_unit, s_proj_rcd, s_proj_part, s_proj_none, s_fix}
use Rattle.calculus.specs.Step.{s_sum_left, s_sum_right, s_sum, s_choice_first, s_choice, Reaches, r_zero, r_suc}
use Rattle.calculus.proofs.Bools.{by_test}
use Rattle.calculus.proofs.Numbers.{hold_fits, chosen_either}
use Rattle.format.specs.declared.Version.{Version}
use Rattle.format.specs.declared.Version.TheVariants.{One, Two}
use Rattle.format.specs.Version.{half_of}
use Rattle.format.specs.Terms.{TypeFits, TermFits}

module _ (m : ℕ) where
  -- a reading takes its parts from the value and the type
  cast_fits : {v x : Term} {A : Ty} → Cast v A x → TermFits m v → TypeFits A → TermFits m x
  cast_fits c_lit f t = f
  cast_fits (c_top v o u) f t = tt
  cast_fits (c_arrow n b d) f t = (f.0, f.1, t.1)
  cast_fits (c_rcd n c) f t = (f.0, cast_fits c f.1 t.1)
  cast_fits (c_left w o c) f t = cast_fits c f.0 t
  cast_fits (c_right v o c) f t = cast_fits c f.1 t
  cast_fits (c_both c d) f t = (cast_fits c f t.0, cast_fits d f t.1)

  substitute_fits : (k : ℕ) (s e : Term) → TermFits m s → TermFits m e → TermFits m (substitute k s e)
  unfolding substitute
  substitute_fits k s (var n) h f = by_test (TermFits m) (eqb n k) {x = s} {y = var n} (λ t. h) (λ t. f)
  substitute_fits k s (lit i) h f = f
  substitute_fits k s unit h f = f
  substitute_fits k s (anno e A) h f = (substitute_fits k s e h f.0, f.1)
  substitute_fits k s (app e g) h f = (substitute_fits k s e h f.0, substitute_fits k s g h f.1)
  substitute_fits k s (lam e A B) h f = (substitute_fits (suc k) s e h f.0, f.1, f.2)
  substitute_fits k s (merge e g) h f = (substitute_fits k s e h f.0, substitute_fits k s g h f.1)
  substitute_fits k s (fix e A) h f = (substitute_fits (suc k) s e h f.0, f.1)
  substitute_fits k s (rcd l e) h f = (f.0, substitute_fits k s e h f.1)
  substitute_fits k s (proj l e) h f = (f.0, substitute_fits k s e h f.1)
  substitute_fits k s (sum e g) h f = (substitute_fits k s e h f.0, substitute_fits k s g h f.1)
  substitute_fits k s (choice e g d) h f = (substitute_fits k s e h f.0, substitute_fits k s g h f.1, substitute_fits k s d h f.2)

  -- the content of a part
  content_fits : {l : ℕ} {v x : Term} → HasField l v x → TermFits m v → TermFits m x
  content_fits (f_here v n) f = f.1
  content_fits (f_left h) f = content_fits h f.0
  content_fits (f_right h) f = content_fits h f.1

  -- "Sums .. are held to the ends", so that they fit
  module _ {h : ℕ} (p : 0 < h) (q : h ≤ m) where
    pub step_fits : {e g : Term} → Step h e g → TermFits m e → TermFits m g
    step_fits (s_app_left s) f = (step_fits s f.0, f.1)
    step_fits (s_app_right v s) f = (f.0, step_fits s f.1)
    step_fits (s_merge_left s) f = (step_fits s f.0, f.1)
    step_fits (s_merge_right v s) f = (f.0, step_fits s f.1)
    step_fits (s_anno s) f = (step_fits s f.0, f.1)
    step_fits (s_rcd s) f = (f.0, step_fits s f.1)
    step_fits (s_proj s) f = (f.0, step_fits s f.1)
    step_fits (s_cast c) f = cast_fits c f.0 f.1
    step_fits (s_beta {e} {v} {x} c) f = (substitute_fits 0 x e (cast_fits c f.1 f.0.1) f.0.0, f.0.2)
    step_fits (s_app_unit v) f = tt
    step_fits s_proj_unit f = tt
    step_fits (s_proj_rcd v) f = f.1.1
    step_fits (s_proj_part v h) f = content_fits h f.1
    step_fits (s_proj_none v n t) f = tt
    step_fits (s_fix {e} {A}) f = (substitute_fits 0 (fix e A) e f f.0, f.1)
    step_fits (s_sum_left s) f = (step_fits s f.0, f.1)
    step_fits (s_sum_right v s) f = (f.0, step_fits s f.1)
    step_fits (s_sum {i = i} {j = j} c d) f = omega (arith, hold_fits h (i +ℤ j) p)
    step_fits (s_choice_first s) f = (step_fits s f.0, f.1, f.2)
    step_fits (s_choice {b = b} {c = c} {i = i} d) f = (chosen_either (TermFits m) i b c f.1 f.2, tt)

    pub reaches_fits : {n : ℕ} {e f : Term} → Reaches h n e f → TermFits m e → TermFits m f
    reaches_fits r_zero f = f
    reaches_fits (r_suc r s) f = step_fits s (reaches_fits r f)

pub half_positive : (v : Version) → 0 < half_of v
half_positive One = lit< tt
half_positive Two = lit< tt
