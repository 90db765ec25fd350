-- What it is to be the engine that the two public calls are: demands 2 and 3, and the promises of restamped books, of values in any order and of sheets, are proved
-- of every such engine (proofs/Demands). Assumes nothing.
use Rattle.std.specs.Prelude.{ℕ, ◌≡◌, List}
use Rattle.format.specs.Cell.{IsBytes}
use Rattle.answers.specs.Answer.{result}
use Rattle.answers.specs.Engine.{Engine, IsLimit}
use Rattle.answers.specs.Cases.{check_answer, run_answer}
use Rattle.answers.specs.declared.CheckOutcome.{CheckOutcome}
use Rattle.answers.specs.declared.RunOutcome.{RunOutcome}
use Rattle.engine.specs.Check.{Checked}
use Rattle.engine.specs.Run.{Ran}

-- Every answer of E, with the bytes left, is one that the contracts of `check` and `run` allow.
pub record MeetsContracts (E : Engine) : Type 0 where
  pub checks : (b w : List ℕ) → IsBytes b → (r : CheckOutcome) × (v : List ℕ) × Checked b w v r × (E.check b w ≡ result (check_answer r) v)
  pub runs : (b w : List ℕ) (limit : ℕ) → IsBytes b → IsLimit limit →
      (r : RunOutcome) × (v : List ℕ) × Ran b w v limit r × (E.run b w limit ≡ result (run_answer r) v)
