-- Document 02, (ix): the sheet call as an executable definition, from the book and the work buffer to the whole answer and every byte left; and every case of the code's
-- answers with the document's number and values. Assumes nothing.
use Rattle.std.specs.Prelude.{ℕ, Bool, true, false, not, ◌&&◌, List, eqb, length}
use Rattle.std.proofs.Math.Option.{Option, none, some}
use Rattle.calculus.specs.Sheet.{is_sheet, count_steps}
use Rattle.format.specs.Book.{Finding, form_finding, root_of, root_term}
use Rattle.answers.specs.Answer.{Answer, refused, accepted, stopped, Result}
use Rattle.answers.specs.Engine.{work_length}
use Rattle.answers.specs.Definition.{check, refusal_result}
use Rattle.answers.specs.Cases.{refusal_answer}
use Rattle.sheets.specs.declared.SheetOutcome.{SheetOutcome}
use Rattle.sheets.specs.declared.SheetOutcome.TheVariants.{Refused, NoSheet, Accepted}

-- What the sheet call answers and leaves: "the call answers and leaves the work buffer as a check does, with the count beside an acceptance".
pub record SheetResult : Type 0 where
  pub answer : Answer
  pub steps : ℕ
  pub left : List ℕ

-- rows 1 to 15, and "17 .. names the root"
abbrev pub sheet_answer : SheetOutcome → Answer
sheet_answer (Refused r) = refusal_answer r
sheet_answer (NoSheet i) = refused 17 i
sheet_answer (Accepted n k) = accepted n

-- the count beside an acceptance; 0 beside a refusal
abbrev pub sheet_steps_lem : SheetOutcome → ℕ
sheet_steps_lem (Refused r) = 0
sheet_steps_lem (NoSheet i) = 0
sheet_steps_lem (Accepted n k) = k

-- no row from 2 to 10 meets the book
abbrev pub passes : Option Finding → Bool
passes none = true
passes (some f) = false

-- "17 when the book is no sheet, tested after 10 and before typing"
unfoldable pub is_row17 : List ℕ → List ℕ → Bool
is_row17 b w = eqb (length w) work_length && (passes (form_finding b) && not (is_sheet (root_term b)))

-- the count k beside an acceptance
abbrev pub beside : ℕ → Answer → ℕ
beside k (refused n i) = 0
beside k (accepted n) = k
beside k (stopped s n m) = 0

-- a result r of a check, with the count k beside an acceptance
abbrev pub with_steps : ℕ → Result → SheetResult
with_steps k r = record { answer = r.answer; steps = beside k r.answer; left = r.left }

-- "it names the root. Otherwise the call answers and leaves the work buffer as a check does, with the count beside an acceptance."
unfoldable pub sheeted : List ℕ → List ℕ → SheetResult
sheeted b w = elim (is_row17 b w) [ true ↦ with_steps 0 (refusal_result 17 (root_of b)) | false ↦ with_steps (count_steps (root_term b)) (check b w) ]
