-- The root encoded and run; what the definition answers to a run means what demands 2 and 3 say. Assumes nothing.
use Prim.Native.Nat.{ℕ, suc, ◌≤◌}
use mathlib.Core.Path.{◌≡◌, sym, subst, ◌∙◌}
use mathlib.Core.Logic.{◌≢◌}
use lib.ListN.{length}
use mathlib.Core.List.{List, []}
use native.Mathlib.Omega.{arith}
use Rattle.cells.specs.declared.Use.TheVariants.{ToTerm}
use Rattle.calculus.specs.Syntax.{Ty, Term, size}
use Rattle.calculus.specs.Typing.{Typed}
use Rattle.calculus.specs.Step.{Reaches}
use Rattle.format.specs.declared.Version.{Version}
use Rattle.format.specs.declared.Version.TheVariants.{Two}
use Rattle.format.specs.Version.{half_of}
use Rattle.format.specs.Cell.{IsBytes}
use Rattle.format.specs.Book.{version_of, root_term, size_limit, WellFormed}
use Rattle.answers.specs.Answer.{Stop, refused, Result, result}
use Rattle.answers.specs.Engine.{IsWork}
use Rattle.answers.specs.Definition.{definition, run, judge, Ended, ended, run_from, end_result, reported}
use Rattle.answers.specs.Demands as Demands
use Rattle.answers.proofs.Fits.{reaches_fits, half_positive}
use Rattle.answers.proofs.Running.{so_far_first, ran}
use Rattle.answers.proofs.Restamping.{restamped}
use Rattle.answers.proofs.Demands.{typed_accepts, definition_runs, runs_agree, demand2, demand3}
use Rattle.answers.specs.Cases.{run_answer}
use Rattle.answers.specs.declared.RunOutcome.{RunOutcome}
use Rattle.answers.specs.declared.RunOutcome.TheVariants.{Stopped}
use Rattle.format.specs.Terms.{from_term, TermFits}
use Rattle.format.proofs.Restamping.{fits_wide}
use Rattle.format.proofs.Trees.{term_cells, term_positive}
use Rattle.emission.proofs.Fields.{term_field}
use Rattle.layout.specs.Encoding.{InPlaceReady, EncodesTree, EncodedIn, SomeTerm, ClosesTerm}
use Rattle.layout.proofs.Encoded.{encode_ready}
use Rattle.format.specs.Tree.{cells}
use Rattle.running.specs.Turns.{EncodedTerm, StepReady, Runs}
use Rattle.running.specs.declared.End.{End}
use Rattle.engine.specs.Stages.{Gives, RootAt, SomeRoot, RunsRoot}
use Rattle.engine.specs.Rows.{Refuses}
use Rattle.engine.specs.Run.{Ran}
use Rattle.engine.proofs.Rows.{judge_refuses}

-- ---- the root, encoded and run

-- the term that a run ends at fits the version, as the first did
end_fits : (q : Version) {e : Term} {A : Ty} → Typed [] e A → size e ≤ size_limit → TermFits (half_of q) e → (l : ℕ) {s : Stop} {n k : ℕ} {f : Term} →
    run_from (half_of q) size_limit l e ≡ ended s n k f → TermFits (half_of q) f
end_fits q {e} t k h l {f = f} m =
    let a = ran (half_of q) t l 0 (size e) e (so_far_first (half_of q) t k) in
    reaches_fits (half_of q) (half_positive q) (omega arith) (subst (λ (x : Ended). Reaches (half_of q) x.steps e x.term) m a.reached) h

module _ {q : Version} {w : List ℕ} {i : ℕ} (bytes : IsBytes w) where
  root_small : (e : Term) → RootAt q w i e → cells (from_term e) ≤ size_limit
  root_small e p = omega (arith, term_cells Two e, p.small)

  pub root_ready : {s : List ℕ} → 32768 ≤ length s → SomeRoot q w i → InPlaceReady s w ToTerm i
  root_ready l p =
      record {
        long = omega (arith, p.root.long);
        ready = encode_ready l (term_field bytes p.root.holds) (term_positive Two p.term) (root_small p.term p.root);
      }

  module _ {v : List ℕ} {n : ℕ} (f : EncodesTree w v ToTerm i n) where
    root_encoded : (e : Term) → RootAt q w i e → EncodedTerm v n e
    root_encoded e p =
        record {
          tree = f.says (suc i) (from_term e) (term_field bytes p.holds) (term_positive Two e) (root_small e p);
          fits = fits_wide q e p.fits;
        }

    pub root_typed : {s : List ℕ} → 32768 ≤ length s → length v ≡ length w → SomeRoot q w i → StepReady s v n
    root_typed l k p =
        record {
          long = l;
          work = k ∙ p.root.long;
          at = record { term = p.term; encoded = root_encoded p.term p.root; type = p.root.type; typed = p.root.typed };
        }

    module _ {u : List ℕ} {l : ℕ} {z : End} (y : Runs q v u n l z) where
      -- the term reached, in the form that it has outside of books
      reached : (e : Term) (p : RootAt q w i e) → EncodedIn q u z.cells (y.says e p.type (root_encoded e p) p.typed).term
      reached e p =
          let k = y.says e p.type (root_encoded e p) p.typed in
          record { tree = k.encoded.tree; fits = end_fits q p.typed p.small p.fits l k.ends }

      pub end_encoded : length u ≡ length w → SomeRoot q w i → SomeTerm q u z.cells
      end_encoded h p = record { work = h ∙ p.root.long; term = _; encoded = reached p.term p.root }

      pub root_runs : {t : List ℕ} → ClosesTerm q u t z.cells → RunsRoot q w t i l (Stopped z.stop z.mark)
      unfolding end_result
      root_runs x =
          record {
            says = λ e p.
                let k = y.says e p.type (root_encoded e p) p.typed in
                rw k.ends (record { answer = k.answer; left = x.says k.term (reached e p) });
          }

-- ---- what the definition answers, and so its meaning

run_stops : (b : List ℕ) (l : ℕ) (A : Ty) (n i : ℕ) → (reported b l A).answer ≢ refused n i
unfolding end_result
run_stops b l A n i e = let z : ◌≡◌ {A = ℕ} 0 1 = cc in absurd (omega arith)

module _ {b w v : List ℕ} {l : ℕ} {r : RunOutcome} (bytes : IsBytes b) where
  meaning : Gives v (run_answer r) (run b w l) → Ran b w v l r
  unfolding run
  meaning g =
      record {
        answer = g.answer;
        left = g.left;
        refuses = λ n i e.
            subst (λ (u : List ℕ). Refuses b w u n i) (sym g.left) (judge_refuses b w bytes (reported b l) (run_stops b l) n i (sym g.answer ∙ e));
        runs = runs;
        book = λ p. demand3 b bytes p;
        restamped = λ p o n. restamped definition demand2 b bytes p o n;
        agree = λ k f A t other y q. (runs_agree t (runs k f A t) q, runs_agree t q (runs k f A t));
      }
    where
      same : {x : Result} → Gives v (run_answer r) x → result (run_answer r) v ≡ x
      same h = rw (h.answer, h.left)

      runs : IsWork w → WellFormed b → (A : Ty) → Typed [] (root_term b) A → Demands.TakesSteps (version_of b) (root_term b) l (result (run_answer r) v)
      runs k f A t =
          subst (λ (x : Result). Demands.TakesSteps (version_of b) (root_term b) l x) (sym (same g)) (definition_runs b w l bytes k (typed_accepts b (f, (A, t))))

  pub ran_as : Gives v (run_answer r) (judge b w (reported b l)) → Ran b w v l r
  unfolding run
  ran_as g = meaning g
