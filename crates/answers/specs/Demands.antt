-- Demands 2 and 3, of any engine E: written with the relations of the calculus and the format of a book. "Comparison with the calculus is made for each
-- version at its own range": what a run is stands over the version, and a book's own is taken. Assumes nothing.
use Rattle.std.specs.Prelude.{ℕ, ◌≤◌, ◌<◌, min, ◌≡◌, ◌↔◌, ◌≢◌, List, []}
use Rattle.calculus.specs.Syntax.{Ty, size_type, Term, size, IsValue}
use Rattle.calculus.specs.Subtyping.{Below}
use Rattle.calculus.specs.Typing.{Typed}
use Rattle.calculus.specs.Step.{Step, Reaches, Ends}
use Rattle.format.specs.declared.Version.{Version}
use Rattle.format.specs.Version.{half_of}
use Rattle.format.specs.Cell.{IsBytes}
use Rattle.format.specs.Book.{size_limit, WellFormed, version_of, root_term, type_book, term_book}
use Rattle.answers.specs.Answer.{Stop, value, spent, room, accepted, stopped, steps_of, Result, result}
use Rattle.answers.specs.Engine.{Engine, IsWork, IsLimit, padded}

-- "accepted: a check with a work buffer of 65,536 bytes accepts"
pub record Accepts (E : Engine) (b : List ℕ) : Type 0 where
  pub work : List ℕ
  pub is_work : IsWork work
  pub size : ℕ
  pub answers : (E.check b work).answer ≡ accepted size

-- Why a run with this limit stops at f, after n steps: it is a value; or it is none and the limit is taken; or it is none, the limit is
-- not taken, and a successor's size exceeds 4,095. Sums are held to -h .. h - 1.
abbrev pub StopsBy : ℕ → Stop → ℕ → ℕ → Term → Type 0
StopsBy h value limit n f = IsValue f
StopsBy h spent limit n f = (¬ IsValue f) × (n ≡ limit)
StopsBy h room limit n f = (¬ IsValue f) × (n < limit) × ((g : Term) × Step h f g × (size_limit < size g))

-- Document 02, (viii): "The mark equals the maximum over the terms that the run reaches in the calculus". Of the terms that e reaches within n steps, the
-- first and the last included,
pub record GreatestSize (h n : ℕ) (e : Term) (mark : ℕ) : Type 0 where
  -- none is larger,
  pub bounds : (k : ℕ) (f : Term) → k ≤ n → Reaches h k e f → size f ≤ mark
  -- and one has that size.
  pub attained : (k : ℕ) × (f : Term) × (k ≤ n) × Reaches h k e f × (size f ≡ mark)

-- What a run of e answers, in a version and at its range: it takes the calculus's steps, one by one, through terms of at most 4,095 cells, reports the
-- greatest size, and encodes the last.
pub record TakesSteps (v : Version) (e : Term) (limit : ℕ) (r : Result) : Type 0 where
  pub stop : Stop
  pub steps : ℕ
  pub mark : ℕ
  pub term : Term
  pub says : r ≡ result (stopped stop steps mark) (padded (term_book v term))
  pub taken : steps ≤ limit
  pub reached : Reaches (half_of v) steps e term
  pub small : (n : ℕ) (f : Term) → n ≤ steps → Reaches (half_of v) n e f → size f ≤ size_limit
  -- "each run answer reports it"; "a successor that found no room is not counted"
  pub greatest : GreatestSize (half_of v) steps e mark
  pub why : StopsBy (half_of v) stop limit steps term

-- Demand 2, of one book: "A well-formed book of at most 4,095 cells, sharing opened,
pub record Demand2For (E : Engine) (b : List ℕ) : Type 0 where
  -- is accepted precisely if the typing rules .. derive a type for it;
  pub accepts : Accepts E b ↔ (WellFormed b × ((A : Ty) × Typed [] (root_term b) A))
  -- that type is the one shown,
  pub shows : (A : Ty) → WellFormed b → Typed [] (root_term b) A → (w : List ℕ) → IsWork w →
      E.check b w ≡ result (accepted (size_type A)) (padded (type_book (version_of b) A))
  -- and a run takes that calculus's steps, one by one, up to its value or to the limit that stopped it."
  pub runs : Accepts E b → (w : List ℕ) (limit : ℕ) → IsWork w → IsLimit limit → TakesSteps (version_of b) (root_term b) limit (E.run b w limit)
  -- A book that is not accepted is not run: it is refused as the check refuses it.
  pub refuses : ¬ Accepts E b → (w : List ℕ) (limit : ℕ) → IsLimit limit → E.run b w limit ≡ E.check b w

-- Demand 2, of every book.
abbrev pub Demand2 : Engine → Type 0
Demand2 E = (b : List ℕ) → IsBytes b → Demand2For E b

-- "two laptops running that book agree": one answered x under its limit, the other y under its own.
pub record Agree (limit other : ℕ) (x y : Result) : Type 0 where
  -- "one whose limit is no higher than the other's reports as its steps the lesser of its limit and the other's steps;
  pub lesser : limit ≤ other → steps_of x.answer ≡ min limit (steps_of y.answer)
  -- and unless that one was stopped for steps, both give the same answer and the same bytes."
  pub same : limit ≤ other → ((n m : ℕ) → x.answer ≢ stopped spent n m) → x ≡ y

-- Demand 3, of one accepted book, whole: "whichever half each merge on the way is read from,
pub record Demand3For (E : Engine) (b : List ℕ) : Type 0 where
  -- every term it reaches after any number of steps, with room for it or without, is the only one reached after that many;
  pub only : (n : ℕ) (f g : Term) → Reaches (half_of (version_of b)) n (root_term b) f → Reaches (half_of (version_of b)) n (root_term b) g → f ≡ g
  -- it is a value and has no successor under the calculus, or is no value and has exactly one;
  pub ends : (n : ℕ) (f : Term) → Reaches (half_of (version_of b)) n (root_term b) f → Ends (half_of (version_of b)) f
  -- it has a type below the first;
  pub typed : (n : ℕ) (f : Term) → Reaches (half_of (version_of b)) n (root_term b) f → (A : Ty) × (B : Ty) × Typed [] (root_term b) A × Typed [] f B × Below B A
  -- and if its size is within the limit, it is, laid down, an accepted book itself" (by every check with 65,536 bytes).
  pub book : (n : ℕ) (f : Term) → Reaches (half_of (version_of b)) n (root_term b) f → size f ≤ size_limit → (w : List ℕ) → IsWork w →
      (m : ℕ) × ((E.check (term_book (version_of b) f) w).answer ≡ accepted m)
  -- "And for every two step limits, two laptops running that book agree: each lays down the term reached after the steps it reports;
  pub encodes : (w : List ℕ) (limit : ℕ) → IsWork w → IsLimit limit →
      (s : Stop) × (n : ℕ) × (m : ℕ) × (f : Term) × Reaches (half_of (version_of b)) n (root_term b) f
      × (E.run b w limit ≡ result (stopped s n m) (padded (term_book (version_of b) f)))
  -- one whose limit is no higher .., and unless that one was stopped for steps, both give the same answer and the same bytes."
  pub agree : (w v : List ℕ) (limit other : ℕ) → IsWork w → IsWork v → IsLimit limit → IsLimit other →
      Agree limit other (E.run b w limit) (E.run b v other)

-- Demand 3, of every accepted book.
abbrev pub Demand3 : Engine → Type 0
Demand3 E = (b : List ℕ) → IsBytes b → Accepts E b → Demand3For E b
