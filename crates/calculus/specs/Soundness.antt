-- The theorem of the calculus, as a statement: source 001, theorems 5.1 to 5.3 (determinism, preservation, progress), along the whole chain
-- of steps. Assumes nothing.
use Rattle.std.specs.Prelude.{ℕ, ◌≡◌, []}
use Rattle.calculus.specs.Syntax.{Ty, Term}
use Rattle.calculus.specs.Subtyping.{Below}
use Rattle.calculus.specs.Typing.{Typed}
use Rattle.calculus.specs.Step.{Reaches, Ends, Stuck}

-- Demand 3, of each term f that e, of type A, reaches after n steps, sums held to -h .. h - 1: it "is the only one reached after that many"; "it is a value and has no
-- successor under the calculus, or is no value and has exactly one"; "it has a type below the first"; and it is not stuck: "never getting
-- stuck includes the new reads" of document 02, (i).
pub record Reached (h : ℕ) (e : Term) (A : Ty) (n : ℕ) (f : Term) : Type 0 where
  pub only : (g : Term) → Reaches h n e g → g ≡ f
  pub ends : Ends h f
  pub typed : (B : Ty) × Typed [] f B × Below B A
  pub not_stuck : ¬ Stuck h f
