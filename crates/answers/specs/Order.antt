-- Document 02, (v), "of the engine through" the calculus: books that list the parts of a value in two orders. Of any engine E; it follows from demand 2 and from
-- `OrderFree` of the calculus (proofs/Order). Assumes nothing.
use Rattle.std.specs.Prelude.{ℕ, ◌≡◌, ◌↔◌, ◌≢◌, List}
use Rattle.calculus.specs.Syntax.{Ty, Term, anno, IsValue}
use Rattle.calculus.specs.Order.{Reordered}
use Rattle.format.specs.declared.Version.{Version}
use Rattle.format.specs.Cell.{IsBytes}
use Rattle.format.specs.Book.{WellFormed, version_of, root_term, term_book}
use Rattle.answers.specs.Answer.{steps_of, Result}
use Rattle.answers.specs.Engine.{Engine, IsWork, IsLimit, padded}
use Rattle.answers.specs.Demands.{Accepts}
use Rattle.answers.specs.Samples.{number_first_read, record_first_read}

-- The roots of two books, unshared: a value and the same reordered;
abbrev pub Values : Term → Term → Type 0
Values e f = IsValue e × Reordered e f

-- or both annotated with one type.
pub data UnderOneType : Term → Term → Type 0 where
  under_one_type : {v w : Term} {A : Ty} → Values v w → UnderOneType (anno v A) (anno w A)

-- Two books past row 10 with such roots. (Rows 2 to 9 are about bytes; row 10 is about the size of the root, and both are of one: `sizes` of `SameValue`.)
pub record Books (R : Term → Term → Type 0) (b c : List ℕ) : Type 0 where
  pub bytes : IsBytes b × IsBytes c
  pub formed : WellFormed b × WellFormed c
  pub roots : R (root_term b) (root_term c)

-- Runs of two books, of the versions u and v, with the annotated roots e and f, under one limit: the answers and bytes x and y.
pub record SameReading (u v : Version) (e f : Term) (x y : Result) : Type 0 where
  -- The answer is the same.
  pub answer : x.answer ≡ y.answer
  -- "both readings are .. equal": where a step is taken, all bytes are the same, if the books are of one version.
  pub stepped : steps_of x.answer ≢ 0 → u ≡ v → x.left ≡ y.left
  -- Where none is taken - under limit 0, or because the reading has no room - the roots themselves are encoded,
  pub unstepped : steps_of x.answer ≡ 0 → (x.left ≡ padded (term_book u e)) × (y.left ≡ padded (term_book v f))
  -- and differ if they are not the same.
  pub differ : steps_of x.answer ≡ 0 → u ≡ v → e ≢ f → x.left ≢ y.left

-- The promise. (It is kept by an engine that refuses every book, too; demand 2 says which it accepts.)
pub record IgnoresOrder (E : Engine) : Type 0 where
  -- "it is accepted exactly when the original is",
  pub accepts : (b c : List ℕ) → Books Values b c → Accepts E b ↔ Accepts E c
  -- with the same answer. (The types encoded have their parts in the two orders.)
  pub answers : (b c : List ℕ) → Books Values b c → Accepts E b → (w x : List ℕ) → IsWork w → IsWork x → (E.check b w).answer ≡ (E.check c x).answer
  -- "Once accepted, under every type both readings are possible together
  pub together : (b c : List ℕ) → Books UnderOneType b c → Accepts E b ↔ Accepts E c
  -- and equal."
  pub runs : (b c : List ℕ) → Books UnderOneType b c → Accepts E b → (w x : List ℕ) (limit : ℕ) → IsWork w → IsWork x → IsLimit limit →
      SameReading (version_of b) (version_of c) (root_term b) (root_term c) (E.run b w limit) (E.run c x limit)

-- The witness that a step must be taken for that: (1,,{1=2}) : Int & {1:Int} and the same swapped, both accepted, give the same answer and bytes under limit 1, and
-- other bytes under limit 0.
pub record StepNeeded (E : Engine) : Type 0 where
  pub books : Books UnderOneType number_first_read record_first_read
  pub accepted : Accepts E number_first_read × Accepts E record_first_read
  pub same : (w x : List ℕ) → IsWork w → IsWork x → E.run number_first_read w 1 ≡ E.run record_first_read x 1
  pub differ : (w x : List ℕ) → IsWork w → IsWork x → (E.run number_first_read w 0).left ≢ (E.run record_first_read x 0).left
