-- Document 02, (iv): "Every accepted version 1 book without sums, restamped as version 2 with each number extended by its sign, shows the same type and
-- takes the same steps." Of any engine E; it follows from demand 2 (proofs/Restamping). Assumes nothing.
use Rattle.std.specs.Prelude.{ℕ, ◌<◌, ◌≡◌, ◌↔◌, List, []}
use Rattle.calculus.specs.Syntax.{Ty, size_type, Term}
use Rattle.calculus.specs.Numbers.{NoSum}
use Rattle.calculus.specs.Typing.{Typed}
use Rattle.calculus.specs.Step.{Reaches}
use Rattle.format.specs.declared.Version.TheVariants.{One, Two}
use Rattle.format.specs.Version.{half_of}
use Rattle.format.specs.Cell.{IsBytes, cell_at}
use Rattle.format.specs.Book.{WellFormed, count, root_of, version_of, root_term, type_book, term_book}
use Rattle.format.specs.Widths.{Extends, restamp}
use Rattle.answers.specs.Answer.{Stop, accepted, stopped, result}
use Rattle.answers.specs.Engine.{Engine, IsWork, IsLimit, padded}
use Rattle.answers.specs.Demands.{Accepts}

-- A run of both books with one limit, in any work buffers: the same stop after the same steps, with the same mark, at the same term, which each encodes in its
-- version.
pub record SameRun (E : Engine) (b w v : List ℕ) (limit : ℕ) : Type 0 where
  pub stop : Stop
  pub steps : ℕ
  pub mark : ℕ
  pub term : Term
  pub reached : Reaches (half_of One) steps (root_term b) term
  pub first : E.run b w limit ≡ result (stopped stop steps mark) (padded (term_book One term))
  pub second : E.run (restamp b) v limit ≡ result (stopped stop steps mark) (padded (term_book Two term))

-- What is promised of a book b.
pub record RestampedFor (E : Engine) (b : List ℕ) : Type 0 where
  -- restamped, it is bytes, a book past row 10, of version 2, and accepted;
  pub bytes : IsBytes (restamp b)
  pub formed : WellFormed (restamp b)
  pub version : version_of (restamp b) ≡ Two
  pub accepted_too : Accepts E (restamp b)
  -- it has the cells of b, "each number extended by its sign", whether the root reaches it or not, and the same root cell,
  pub counted : count (restamp b) ≡ count b
  pub cells : (i : ℕ) → i < count b → Extends (cell_at b i) (cell_at (restamp b) i)
  pub rooted : root_of (restamp b) ≡ root_of b
  -- which holds the same term;
  pub root : root_term (restamp b) ≡ root_term b
  -- it "shows the same type", in version 2,
  pub shows : (A : Ty) → Typed [] (root_term b) A → (w v : List ℕ) → IsWork w → IsWork v →
      (E.check b w ≡ result (accepted (size_type A)) (padded (type_book One A))) × (E.check (restamp b) v ≡ result (accepted (size_type A)) (padded (type_book Two A)))
  -- "and takes the same steps": the terms that it reaches are the same, with room for them or without,
  pub steps : (n : ℕ) (f : Term) → Reaches (half_of One) n (root_term b) f ↔ Reaches (half_of Two) n (root_term (restamp b)) f
  -- and under every limit so is the run.
  pub runs : (w v : List ℕ) (limit : ℕ) → IsWork w → IsWork v → IsLimit limit → SameRun E b w v limit

-- The promise, of every accepted version 1 book whose root, unshared, has no sum. (Sums in cells that the root does not reach are no matter.)
abbrev pub RestampKeeps : Engine → Type 0
RestampKeeps E = (b : List ℕ) → IsBytes b → Accepts E b → version_of b ≡ One → NoSum (root_term b) → RestampedFor E b
