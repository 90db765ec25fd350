-- Document 02, (ix): "An accepted sheet, given that many steps, reaches its value after precisely that many. Under no limit is it stopped for room." Of any engine
-- E; it follows from demand 2 and from `SheetSteps` of the calculus (proofs/Sheets). Assumes nothing.
use Rattle.std.specs.Prelude.{ℕ, ◌≤◌, ◌<◌, ◌≡◌, ◌≢◌, List}
use Rattle.calculus.specs.Syntax.{Term, size, IsValue}
use Rattle.calculus.specs.Step.{Reaches}
use Rattle.calculus.specs.Sheet.{Sheet, count_steps}
use Rattle.format.specs.Version.{half_of}
use Rattle.format.specs.Cell.{IsBytes}
use Rattle.format.specs.Book.{size_limit, version_of, root_term, term_book}
use Rattle.answers.specs.Answer.{value, spent, room, stopped, result}
use Rattle.answers.specs.Engine.{Engine, IsWork, IsLimit, padded}
use Rattle.answers.specs.Demands.{Accepts}

-- What is promised of an accepted sheet b; its count is that of its root, unshared.
pub record SheetRuns (E : Engine) (b : List ℕ) : Type 0 where
  -- the count, at most 4,094, is a step limit
  pub counts : count_steps (root_term b) < size_limit
  -- the value, which in the calculus is reached "after precisely that many" steps
  pub term : Term
  pub is_value : IsValue term
  pub reached : Reaches (half_of (version_of b)) (count_steps (root_term b)) (root_term b) term
  -- Under that many steps or more the run says value after precisely that many, and encodes it. (No term on the way is larger than the first: the
  -- mark of document 02, (viii).)
  pub enough : (w : List ℕ) (limit : ℕ) → IsWork w → IsLimit limit → count_steps (root_term b) ≤ limit →
      E.run b w limit ≡ result (stopped value (count_steps (root_term b)) (size (root_term b))) (padded (term_book (version_of b) term))
  -- Under fewer it is spent.
  pub fewer : (w : List ℕ) (limit : ℕ) → IsWork w → IsLimit limit → limit < count_steps (root_term b) →
      (E.run b w limit).answer ≡ stopped spent limit (size (root_term b))
  -- "Under no limit is it stopped for room."
  pub never_room : (w : List ℕ) (limit : ℕ) → IsWork w → IsLimit limit → (n m : ℕ) → (E.run b w limit).answer ≢ stopped room n m

-- The promise, of every accepted book whose root, unshared, is a sheet. (Cells that the root does not reach are no matter.)
abbrev pub SheetsRun : Engine → Type 0
SheetsRun E = (b : List ℕ) → IsBytes b → Accepts E b → Sheet (root_term b) → SheetRuns E b
