-- What a run answers and leaves, for every book, every work buffer and every limit. Assumes nothing.
use Rattle.std.specs.Prelude.{ℕ, ◌≡◌, List, []}
use Rattle.calculus.specs.Syntax.{Ty}
use Rattle.calculus.specs.Typing.{Typed}
use Rattle.calculus.specs.Numbers.{NoSum}
use Rattle.format.specs.declared.Version.TheVariants.{One}
use Rattle.format.specs.Book.{WellFormed, version_of, root_term}
use Rattle.answers.specs.Answer.{refused, Result, result}
use Rattle.answers.specs.Engine.{IsWork}
use Rattle.answers.specs.Definition.{definition, run}
use Rattle.answers.specs.Demands.{Accepts, TakesSteps, Agree, Demand3For}
use Rattle.answers.specs.Restamping.{RestampedFor}
use Rattle.answers.specs.Cases.{run_answer}
use Rattle.answers.specs.declared.RunOutcome.{RunOutcome}
use Rattle.engine.specs.Rows.{Refuses}

-- The book b, the work buffer w as lent and v as left, the limit and the answer r.
pub record Ran (b w v : List ℕ) (limit : ℕ) (r : RunOutcome) : Type 0 where
  -- the answer, by document 01's number and values, and every byte left are the definition's
  pub answer : run_answer r ≡ (run b w limit).answer
  pub left : v ≡ (run b w limit).left
  -- refused: by the number of a row that meets the book, with the cell that it names
  pub refuses : (n i : ℕ) → run_answer r ≡ refused n i → Refuses b w v n i
  -- demand 2: the run takes the calculus's steps, at the range of the book's version, one by one, up to its value or to the limit that stopped it; and
  -- document 02, (viii): "each run answer reports" the greatest size of any term
  pub runs : IsWork w → WellFormed b → (A : Ty) → Typed [] (root_term b) A → TakesSteps (version_of b) (root_term b) limit (result (run_answer r) v)
  -- demand 3, whole, of this book and the engine that the two public calls are: their contracts say that they are the definitions
  pub book : Accepts definition b → Demand3For definition b
  -- "Every accepted version 1 book without sums, restamped as version 2 .., shows the same type and takes the same steps"
  pub restamped : Accepts definition b → version_of b ≡ One → NoSum (root_term b) → RestampedFor definition b
  -- demand 3 of this very run: y is what demand 2 allows of any run of the book, in whatever work buffer and under any limit; this one and that one
  -- agree, whichever limit is the lower
  pub agree : IsWork w → WellFormed b → (A : Ty) → Typed [] (root_term b) A → (other : ℕ) (y : Result) → TakesSteps (version_of b) (root_term b) other y →
      Agree limit other (result (run_answer r) v) y × Agree other limit y (result (run_answer r) v)
