-- What the sheet call answers and leaves, for every book and every work buffer, and how many steps a sheet that it accepts then takes. Assumes nothing.
use Rattle.std.specs.Prelude.{ℕ, ◌≤◌, ◌<◌, ◌≡◌, ◌↔◌, ◌≢◌, List, [], length}
use Rattle.calculus.specs.Syntax.{Ty, size_type, size}
use Rattle.calculus.specs.Typing.{Typed}
use Rattle.calculus.specs.Sheet.{Sheet, count_steps}
use Rattle.format.specs.Book.{WellFormed, version_of, root_of, root_term, type_book}
use Rattle.answers.specs.Answer.{value, spent, refused, accepted, stopped}
use Rattle.answers.specs.Engine.{work_length, IsWork, IsLimit, zeros, padded}
use Rattle.answers.specs.Definition.{definition, check}
use Rattle.answers.specs.Sheets.{SheetRuns}
use Rattle.answers.specs.Cases.{run_answer}
use Rattle.answers.specs.declared.RunOutcome.{RunOutcome}
use Rattle.engine.specs.Rows.{Refuses}
use Rattle.engine.specs.Run.{Ran}
use Rattle.sheets.specs.declared.SheetOutcome.{SheetOutcome}
use Rattle.sheets.specs.Sheet.{sheet_answer, sheet_steps_lem, sheeted}

-- Row 17: "when the book is no sheet, tested after 10 and before typing".
pub record Row17 (b w : List ℕ) : Type 0 where
  pub work : IsWork w
  pub formed : WellFormed b
  pub no_sheet : ¬ Sheet (root_term b)

-- The book b, the work buffer w as lent and v as left, and the answer r.
pub record Sheets (b w v : List ℕ) (r : SheetOutcome) : Type 0 where
  -- the answer, the count and every byte left are the definition's
  pub answer : sheet_answer r ≡ (sheeted b w).answer
  pub steps : sheet_steps_lem r ≡ (sheeted b w).steps
  pub left : v ≡ (sheeted b w).left
  -- row 1 is tested before all others: "Refusal 1 touches nothing"
  pub first : length w ≢ work_length → (sheet_answer r ≡ refused 1 0) × (v ≡ w)
  -- "17 when the book is no sheet", and only then;
  pub turned_away : ((i : ℕ) × (sheet_answer r ≡ refused 17 i)) ↔ Row17 b w
  -- "it names the root"; and it zeroes the work buffer as every refusal but 1 does.
  pub names_root : Row17 b w → (sheet_answer r ≡ refused 17 (root_of b)) × (v ≡ zeros work_length)
  -- "Otherwise the call answers and leaves the work buffer as a check does,
  pub as_check : ¬ Row17 b w → (sheet_answer r ≡ (check b w).answer) × (v ≡ (check b w).left)
  -- with the count beside an acceptance", and nothing beside a refusal.
  pub count : (n : ℕ) → sheet_answer r ≡ accepted n → sheet_steps_lem r ≡ count_steps (root_term b)
  pub no_count : (n i : ℕ) → sheet_answer r ≡ refused n i → sheet_steps_lem r ≡ 0
  -- refused by another number: that of a row that meets the book, with the cell that it names
  pub refuses : (n i : ℕ) → sheet_answer r ≡ refused n i → n ≢ 17 → Refuses b w v n i
  -- accepted precisely if the book is well-formed and a sheet, and the rules derive a type for its root
  pub accepts : IsWork w → ((n : ℕ) × (sheet_answer r ≡ accepted n)) ↔ (WellFormed b × Sheet (root_term b) × ((A : Ty) × Typed [] (root_term b) A))
  -- that type is the one encoded, and its size is the one given
  pub shows : IsWork w → WellFormed b → Sheet (root_term b) → (A : Ty) → Typed [] (root_term b) A →
      (sheet_answer r ≡ accepted (size_type A)) × (v ≡ padded (type_book (version_of b) A))
  -- "An accepted sheet, given that many steps, reaches its value after precisely that many. Under no limit is it stopped for room.": of the engine that the calls
  -- `check` and `run` are
  pub runs : (n : ℕ) → sheet_answer r ≡ accepted n → SheetRuns definition b

-- A run, by what the contracts of the two calls say and nothing else, of a book that the sheet call accepted with this count: value after precisely that many
-- steps if the limit allows them, spent if not.
pub record RunFollows (b : List ℕ) (steps limit : ℕ) (q : RunOutcome) : Type 0 where
  pub enough : steps ≤ limit → run_answer q ≡ stopped value steps (size (root_term b))
  pub fewer : limit < steps → run_answer q ≡ stopped spent limit (size (root_term b))

-- Of any two calls that meet the contracts.
abbrev pub RunsFollow : Type 0
RunsFollow = (b w v w' v' : List ℕ) (r : SheetOutcome) (limit : ℕ) (q : RunOutcome) (n : ℕ) → Sheets b w v r → sheet_answer r ≡ accepted n → IsWork w' →
    IsLimit limit → Ran b w' v' limit q → RunFollows b (sheet_steps_lem r) limit q
