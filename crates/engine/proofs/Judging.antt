-- Rows 1 to 10, for both calls: `judge`, whatever answers for the type found. Assumes nothing.
use Prim.Native.Nat.{ℕ}
use mathlib.Core.Path.{◌≡◌, refl, sym, ◌∙◌, ap, subst, subst⁻¹}
use mathlib.Core.Logic.{◌≢◌}
use mathlib.Core.Option.{Option, none, some}
use mathlib.Core.List.{List, []}
use Rattle.std.specs.Prelude as Std
use Rattle.std.specs.Prelude.{Ok, Err}
use native.Mathlib.Omega.{arith}
use borrow.Author.Tests.{ne_eqb}
use lib.ListN.{length, replicate}
use Rattle.calculus.specs.Syntax.{Ty}
use Rattle.calculus.specs.Infer.{infer}
use Rattle.format.specs.Book.{Finding, form_finding, version_of, root_of, root_term}
use Rattle.format.proofs.Tests.{form_finding_says}
use Rattle.answers.specs.Answer.{Answer, Result}
use Rattle.answers.specs.Engine.{IsWork, work_length, zeros}
use Rattle.answers.specs.Definition.{judge, after_form, after_typing, refusal_result}
use Rattle.answers.proofs.AllSamples.{in_work}
use Rattle.answers.specs.Cases.{refusal_answer}
use Rattle.answers.specs.declared.Refusal.{Refusal}
use Rattle.answers.specs.declared.Refusal.TheVariants.{Buffer}
use Rattle.book.specs.Form.{FormCheck, Finds}
use Rattle.book.proofs.Formed.{formed}
use Rattle.book.specs.declared.Root.{Root}
use Rattle.engine.specs.Stages.{FirstRows, row_1, rows_2_to_10, LeftByRefusal, Formed, Gives, AfterTyping}

pub cleared_work : {v : List ℕ} {n : ℕ} → v ≡ replicate n 0 → n ≡ work_length → v ≡ zeros work_length
unfolding zeros
cleared_work e k = e ∙ ap (λ (m : ℕ). replicate m 0) k

module _ (b w : List ℕ) (g : Ty → Result) where
  -- row 1: nothing is touched
  at_row_1 : {v : List ℕ} → length w ≢ work_length → LeftByRefusal w v → Gives v (refusal_answer Buffer) (judge b w g)
  unfolding judge
  at_row_1 n t =
      rw (t.untouched n) (record { answer = rw (ne_eqb (length w) 65536 n, judge); left = rw (ne_eqb (length w) 65536 n, judge) })

  at_rows_2_to_10 : {v : List ℕ} {q : Refusal} {x : Std.Result Root Refusal} → IsWork w → FormCheck b x → x ≡ Err q → LeftByRefusal w v →
      Gives v (refusal_answer q) (judge b w g)
  unfolding after_form refusal_result
  at_rows_2_to_10 {v} {q} {x} k f e t = go (form_finding b) refl f.says
    where
      go : (y : Option Finding) → form_finding b ≡ y → Finds (record { version = version_of b; cell = root_of b }) x y → Gives v (refusal_answer q) (judge b w g)
      go none p h = let n : ◌≡◌ {A = ℕ} 0 1 = cc in absurd (omega arith)
      go (some y) p h =
          let s : q ≡ h.0 = cc in
          rw (in_work b w g k, p) (record { answer = ap refusal_answer s ∙ h.2; left = t.zeroed k })

  pub refused_result : {v : List ℕ} {q : Refusal} {x : Std.Result Root Refusal} → FirstRows b (length w) x → x ≡ Err q → LeftByRefusal w v →
      Gives v (refusal_answer q) (judge b w g)
  refused_result {v} {q} (row_1 n s) e t =
      let p : q ≡ Buffer = cc in
      subst⁻¹ (λ (o : Refusal). Gives v (refusal_answer o) (judge b w g)) p (at_row_1 n t)
  refused_result (rows_2_to_10 k f) e t = at_rows_2_to_10 k f e t

  pub past_row_10 : {v : List ℕ} {o : Root} {a : Answer} → Formed b w o → AfterTyping b g v a → Gives v a (judge b w g)
  unfolding after_form
  past_row_10 {v} {a = a} k t =
      let p : judge b w g ≡ after_typing b g (infer [] (root_term b)) =
      in_work b w g k.work ∙ rw ((form_finding_says b).1 k.book.form) in
      subst (Gives v a) (sym p) t

-- no row met
pub started : {b w : List ℕ} {o : Root} {x : Std.Result Root Refusal} → FirstRows b (length w) x → x ≡ Ok o → Formed b w o
started {x = x} (row_1 n s) e = let z : ◌≡◌ {A = ℕ} 0 1 = cc in absurd (omega arith)
started (rows_2_to_10 k f) e = let z = formed f e in record { book = record { form = z.0; version = z.1; root = z.2 }; work = k }
