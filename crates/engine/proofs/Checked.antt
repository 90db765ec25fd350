-- What the definition answers to a check means what demand 2 says. Assumes nothing.
use Prim.Native.Nat.{ℕ}
use mathlib.Core.Path.{◌≡◌, sym, ◌∙◌, ap, subst}
use mathlib.Core.Logic.{◌≢◌}
use mathlib.Core.List.{List}
use native.Mathlib.Omega.{arith}
use Rattle.calculus.specs.Syntax.{Ty, size_type}
use Rattle.calculus.proofs.Typing.{typed_size}
use Rattle.format.specs.declared.Version.{Version}
use Rattle.format.specs.Cell.{IsBytes}
use Rattle.format.specs.Book.{version_of}
use Rattle.answers.specs.Answer.{refused, Result}
use Rattle.answers.specs.Definition.{check, judge, shown}
use Rattle.answers.proofs.Demands.{demand2}
use Rattle.answers.specs.Cases.{check_answer}
use Rattle.answers.specs.declared.CheckOutcome.{CheckOutcome}
use Rattle.engine.specs.Rows.{Refuses}
use Rattle.engine.specs.Check.{Checked}
use Rattle.engine.specs.Stages.{Gives}
use Rattle.engine.proofs.Rows.{judge_refuses}

shown_accepts : (u : Version) (A : Ty) (n i : ℕ) → (shown u A).answer ≢ refused n i
unfolding shown
shown_accepts u A n i e = let z : ◌≡◌ {A = ℕ} 0 1 = cc in absurd (omega arith)

-- a refusal of the definition's, with the row that meets the book
pub check_refuses : (b w : List ℕ) → IsBytes b → (n i : ℕ) → (check b w).answer ≡ refused n i → Refuses b w (check b w).left n i
unfolding check
check_refuses b w bytes n i e = judge_refuses b w bytes (shown (version_of b)) (shown_accepts (version_of b)) n i e

module _ {b w v : List ℕ} {r : CheckOutcome} (bytes : IsBytes b) where
  meaning : Gives v (check_answer r) (check b w) → Checked b w v r
  unfolding check
  meaning g =
      let d = demand2 b bytes in
      record {
        answer = g.answer;
        left = g.left;
        refuses = λ n i e.
            subst (λ (u : List ℕ). Refuses b w u n i) (sym g.left) (check_refuses b w bytes n i (sym g.answer ∙ e));
        accepts = λ k. (
          (λ n. d.accepts.0 (record { work = w; is_work = k; size = n.0; answers = sym g.answer ∙ n.1 })),
          λ t. (size_type t.1.0, g.answer ∙ ap (λ (x : Result). x.answer) (d.shows t.1.0 t.0 t.1.1 w k)),
        );
        shows = λ k f A t.
            let e = d.shows A f t w k in
            (g.answer ∙ ap (λ (x : Result). x.answer) e, g.left ∙ ap (λ (x : Result). x.left) e, typed_size t);
      }

  pub checked_as : Gives v (check_answer r) (judge b w (shown (version_of b))) → Checked b w v r
  unfolding check
  checked_as g = meaning g
