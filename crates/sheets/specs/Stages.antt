-- What the functions behind the sheet call answer and leave. Assumes nothing.
use Rattle.std.specs.Prelude.{ℕ, ◌≡◌, List}
use Rattle.answers.specs.Cases.{check_answer}
use Rattle.answers.specs.declared.CheckOutcome.{CheckOutcome}
use Rattle.sheets.specs.declared.SheetOutcome.{SheetOutcome}
use Rattle.sheets.specs.Sheet.{SheetResult, sheet_answer, sheet_steps_lem, beside}

-- The outcome o of a check, with the count k beside an acceptance.
pub record WithSteps (o : CheckOutcome) (k : ℕ) (r : SheetOutcome) : Type 0 where
  pub answer : sheet_answer r ≡ check_answer o
  pub steps : sheet_steps_lem r ≡ beside k (check_answer o)

-- The answer r and the bytes v are those of the result x.
pub record GivesSheet (v : List ℕ) (r : SheetOutcome) (x : SheetResult) : Type 0 where
  pub answer : sheet_answer r ≡ x.answer
  pub steps : sheet_steps_lem r ≡ x.steps
  pub left : v ≡ x.left
