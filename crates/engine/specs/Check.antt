-- What a check answers and leaves, for every book and every work buffer. Assumes nothing.
use Rattle.std.specs.Prelude.{ℕ, ◌≤◌, ◌≡◌, ◌↔◌, List, []}
use Rattle.calculus.specs.Syntax.{Ty, size_type, size}
use Rattle.calculus.specs.Typing.{Typed}
use Rattle.format.specs.Book.{WellFormed, version_of, root_term, type_book}
use Rattle.answers.specs.Answer.{refused, accepted}
use Rattle.answers.specs.Engine.{IsWork, padded}
use Rattle.answers.specs.Definition.{check}
use Rattle.answers.specs.Cases.{check_answer}
use Rattle.answers.specs.declared.CheckOutcome.{CheckOutcome}
use Rattle.engine.specs.Rows.{Refuses}

-- The book b, the work buffer w as lent and v as left, and the answer r.
pub record Checked (b w v : List ℕ) (r : CheckOutcome) : Type 0 where
  -- the answer, by document 01's number and values, and every byte left are the definition's
  pub answer : check_answer r ≡ (check b w).answer
  pub left : v ≡ (check b w).left
  -- refused: by the number of a row that meets the book, with the cell that it names
  pub refuses : (n i : ℕ) → check_answer r ≡ refused n i → Refuses b w v n i
  -- accepted precisely if the book is well-formed and the rules derive a type for its root
  pub accepts : IsWork w → ((n : ℕ) × (check_answer r ≡ accepted n)) ↔ (WellFormed b × ((A : Ty) × Typed [] (root_term b) A))
  -- that type is the one encoded, in the version of the book, and its size, the one given, does not pass the book's own
  pub shows : IsWork w → WellFormed b → (A : Ty) → Typed [] (root_term b) A →
      (check_answer r ≡ accepted (size_type A)) × (v ≡ padded (type_book (version_of b) A)) × (size_type A ≤ size (root_term b))
