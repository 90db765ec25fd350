-- Every engine that meets the contracts of the two public calls meets demands 2 and 3, whole, and keeps the promises of restamped books, of values in any
-- order and of sheets. Assumes nothing.
use Prim.Native.Nat.{ℕ}
use mathlib.Core.Path.{◌≡◌, sym, ◌∙◌, subst}
use mathlib.Core.List.{List, []}
use Rattle.calculus.specs.Syntax.{Ty}
use Rattle.calculus.specs.Typing.{Typed, HasType}
use Rattle.format.specs.Cell.{IsBytes}
use Rattle.format.specs.Book.{version_of, root_term, WellFormed}
use Rattle.format.proofs.Tests.{root_term_fits}
use Rattle.answers.specs.Answer.{Answer, accepted, Result, result}
use Rattle.answers.specs.Engine.{Engine, IsWork, IsLimit}
use Rattle.answers.specs.Definition.{definition, check, run}
use Rattle.answers.specs.Demands.{Accepts, TakesSteps, Agree, Demand2, Demand3}
use Rattle.answers.specs.Restamping.{RestampKeeps}
use Rattle.answers.specs.Order.{UnderOneType, Books, SameReading, IgnoresOrder, StepNeeded}
use Rattle.answers.specs.Sheets.{SheetsRun}
use Rattle.answers.proofs.Demands.{demand2, demand3_from_2}
use Rattle.answers.proofs.Restamping.{restamped}
use Rattle.answers.proofs.Order.{annotated_typed, same_reading, ignores_order, step_needed}
use Rattle.answers.proofs.Sheets.{sheets_run}
use Rattle.answers.specs.Cases.{run_answer}
use Rattle.answers.specs.declared.RunOutcome.{RunOutcome}
use Rattle.engine.specs.Run.{Ran}
use Rattle.engine.specs.Demands.{MeetsContracts}

-- Two laptops, by what the contracts of their two calls say and nothing else.
pub calls_agree : {b w v w' v' : List ℕ} {l m : ℕ} {r q : RunOutcome} {A : Ty} → Ran b w v l r → Ran b w' v' m q → IsWork w → IsWork w' → WellFormed b →
    Typed [] (root_term b) A → Agree l m (result (run_answer r) v) (result (run_answer q) v')
calls_agree {v' = v'} {m = m} {q = q} {A = A} x y j k f t = (x.agree j f A t m (result (run_answer q) v') (y.runs k f A t)).0

-- Two orders of a value under one annotation, likewise.
pub calls_ignore_order : {b c w v w' v' : List ℕ} {l : ℕ} {r q : RunOutcome} → Ran b w v l r → Ran c w' v' l q → IsWork w → IsWork w' → Books UnderOneType b c →
    HasType [] (root_term b) → SameReading (version_of b) (version_of c) (root_term b) (root_term c) (result (run_answer r) v) (result (run_answer q) v')
calls_ignore_order {b = b} {c = c} x y j k p t =
    let u = annotated_typed p.roots t in
    same_reading p.roots t (x.runs j p.formed.0 t.0 t.1) (y.runs k p.formed.1 u.0 u.1)
    (root_term_fits b p.bytes.0 p.formed.0) (root_term_fits c p.bytes.1 p.formed.1)

whole : {a : Answer} {v : List ℕ} {x : Result} → a ≡ x.answer → v ≡ x.left → result a v ≡ x
whole p q = rw (p, q)

accepts_alike : (E F : Engine) (b : List ℕ) → ((w : List ℕ) → E.check b w ≡ F.check b w) → Accepts E b → Accepts F b
accepts_alike E F b same a =
    record {
      work = a.work;
      is_work = a.is_work;
      size = a.size;
      answers = subst (λ (x : Result). x.answer ≡ accepted a.size) (same a.work) a.answers;
    }

module _ (E : Engine) (c : MeetsContracts E) where
  -- the contracts leave no choice
  check_fixed : (b w : List ℕ) → IsBytes b → E.check b w ≡ check b w
  check_fixed b w y = let x = c.checks b w y in x.3 ∙ whole x.2.answer x.2.left

  run_fixed : (b w : List ℕ) (l : ℕ) → IsBytes b → IsLimit l → E.run b w l ≡ run b w l
  run_fixed b w l y i = let x = c.runs b w l y i in x.3 ∙ whole x.2.answer x.2.left

  pub contracts_demand2 : Demand2 E
  contracts_demand2 b y =
      let d = demand2 b y in
      let to = accepts_alike E definition b (λ w. check_fixed b w y) in
      let from = accepts_alike definition E b (λ w. sym (check_fixed b w y)) in
      record {
        accepts = ((λ a. d.accepts.0 (to a)), λ t. from (d.accepts.1 t));
        shows = λ A f t w k. check_fixed b w y ∙ d.shows A f t w k;
        runs = λ a w l k i. subst (TakesSteps (version_of b) (root_term b) l) (sym (run_fixed b w l y i)) (d.runs (to a) w l k i);
        refuses = λ n w l i. run_fixed b w l y i ∙ d.refuses (λ a. n (from a)) w l i ∙ sym (check_fixed b w y);
      }

  pub contracts_demand3 : Demand3 E
  contracts_demand3 = demand3_from_2 E contracts_demand2

  pub contracts_restamped : RestampKeeps E
  contracts_restamped = restamped E contracts_demand2

  pub contracts_ignore_order : IgnoresOrder E
  contracts_ignore_order = ignores_order E contracts_demand2

  pub contracts_step_needed : StepNeeded E
  contracts_step_needed = step_needed E contracts_demand2

  pub contracts_sheets : SheetsRun E
  contracts_sheets = sheets_run E contracts_demand2
