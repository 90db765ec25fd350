-- An accepted sheet takes as many steps as it counts, of any engine that meets demand 2. Assumes nothing.
use Prim.Native.Nat.{ℕ, ◌≤◌, ◌<◌}
use mathlib.Core.Path.{◌≡◌, refl, sym, ◌∙◌, ap, subst}
use mathlib.Core.Logic.{◌≢◌, ◌⊎◌, inl, inr}
use native.Mathlib.Omega.{arith}
use Rattle.calculus.specs.Syntax.{Term, size}
use Rattle.calculus.specs.Step.{Reaches, r_zero, r_suc}
use Rattle.calculus.specs.Sheet.{Sheet, count_steps}
use Rattle.calculus.proofs.Chain.{sound}
use Rattle.calculus.proofs.SheetStep.{count_less}
use Rattle.calculus.proofs.Sheet.{sheet_after, sheet_precisely, sheet_steps}
use Rattle.format.specs.declared.Version.{Version}
use Rattle.format.specs.Version.{half_of}
use Rattle.format.specs.Book.{size_limit, version_of, root_term}
use Rattle.format.proofs.Tests.{root_term_small}
use Rattle.answers.specs.Answer.{Stop, value, spent, room, stopped, Result}
use Rattle.answers.specs.Engine.{Engine}
use Rattle.answers.specs.Demands.{StopsBy, GreatestSize, TakesSteps, Demand2}
use Rattle.answers.specs.Sheets.{SheetsRun}
use Rattle.answers.proofs.Agreement.{end_result_alike, greatest_unique}
use Rattle.answers.proofs.Demands.{clash}

-- No term on the way is larger than the first.
first_greatest : {h n : ℕ} {e : Term} → Sheet e → GreatestSize h n e (size e)
first_greatest {e = e} s =
    record {
      bounds = λ k f l r. omega (arith, (sheet_after s r).size_falls);
      attained = (0, e, omega arith, r_zero, refl);
    }

-- The run of a sheet of at most 4,095 cells, by whatever engine.
module _ {v : Version} {e : Term} {limit : ℕ} {r : Result} (s : Sheet e) (small : size e ≤ size_limit) (x : TakesSteps v e limit r) where
  marked : x.mark ≡ size e
  marked = greatest_unique x.greatest (first_greatest s)

  -- it came to its value, or was spent
  ended : ((x.stop ≡ value) × (x.steps ≡ count_steps e)) ⊎ ((x.stop ≡ spent) × (x.steps ≡ limit) × (limit < count_steps e))
  ended = by x.stop refl x.why
    where
      by : (o : Stop) → x.stop ≡ o → StopsBy (half_of v) o limit x.steps x.term →
          ((x.stop ≡ value) × (x.steps ≡ count_steps e)) ⊎ ((x.stop ≡ spent) × (x.steps ≡ limit) × (limit < count_steps e))
      by value p w = inl (p, (sheet_precisely s x.reached).0 w)
      by spent p w =
          let n : x.steps ≢ count_steps e = λ q. w.0 ((sheet_precisely s x.reached).1 q) in
          inr (p, w.1, omega (arith, n, w.1, (sheet_after s x.reached).count))
      by room p w = absurd (omega (arith, small, w.2.2, (sheet_after s (r_suc x.reached w.2.1)).size_falls))

  pub to_value : count_steps e ≤ limit → (x.stop ≡ value) × (x.steps ≡ count_steps e)
  to_value l = elim ended [ inl p ↦ p | inr p ↦ absurd (omega (arith, l, p.2)) ]

  pub to_limit : limit < count_steps e → (x.stop ≡ spent) × (x.steps ≡ limit)
  to_limit l = elim ended [ inl p ↦ absurd (omega (arith, l, p.1, x.taken)) | inr p ↦ (p.0, p.1) ]

  pub no_room : (n m : ℕ) → r.answer ≢ stopped room n m
  no_room n m q =
      let p : stopped x.stop x.steps x.mark ≡ stopped room n m = sym (ap (λ (y : Result). y.answer) x.says) ∙ q in
      elim ended [ inl o ↦ let z = o.0 in clash cc | inr o ↦ let z = o.0 in clash cc ]

pub sheets_run : (E : Engine) → Demand2 E → SheetsRun E
sheets_run E d b bytes a s =
    let (f, (A, t)) = (d b bytes).accepts.0 a in
    let e = root_term b in
    let v = version_of b in
    let small = root_term_small b bytes f in
    let (g, r, u) = sheet_steps.reaches (half_of v) e A t s in
    record {
      counts = omega (arith, small, count_less e);
      term = g;
      is_value = u;
      reached = r;
      enough = λ w limit k i l.
          let x = (d b bytes).runs a w limit k i in
          let (p, q) = to_value s small x l in
          let same : x.term ≡ g = (sound t (count_steps e) g r).only x.term (subst (λ (n : ℕ). Reaches (half_of v) n e x.term) q x.reached) in
          x.says ∙ end_result_alike v p q (marked s small x) same;
      fewer = λ w limit k i l.
          let x = (d b bytes).runs a w limit k i in
          let (p, q) = to_limit s small x l in
          ap (λ (y : Result). y.answer) x.says ∙ rw (p, q, marked s small x);
      never_room = λ w limit k i. no_room s small ((d b bytes).runs a w limit k i);
    }
