-- Document 01, "To the testers": the impostors, as engines, and which of demands 2 and 3 stops each; and one of document 02. Assumes nothing.
use Rattle.std.specs.Prelude.{ℕ, zero, suc, ◌≤◌, ◌≡◌, ◌≢◌, List}
use Rattle.calculus.specs.Syntax.{size}
use Rattle.format.specs.Cell.{IsBytes}
use Rattle.format.specs.Book.{version_of, root_term}
use Rattle.answers.specs.Answer.{Stop, value, spent, room, accepted, stopped, Result, result}
use Rattle.answers.specs.Engine.{Engine, IsLimit, padded}
use Rattle.answers.specs.Definition.{definition, check, judge, refusal_result, end_result, Ended, ending}
use Rattle.answers.specs.Demands.{Accepts, Demand2, Demand3}

-- The engine that checks and refuses truly, and answers g to the run of an accepted book: the most convincing impostors are such.
unfoldable pub posing : (List ℕ → ℕ → Result) → Engine
posing g = record { check = check; run = λ b w l. judge b w (λ A. g b l) }

-- The limit, but for the steps after the first.
unfoldable pub at_most_one : ℕ → ℕ
at_most_one zero = 0
at_most_one (suc n) = 1

-- Where a step has been taken, s is the reason to stop.
unfoldable pub hurried : Stop → Ended → Ended
hurried s r = record { stop = elim r.steps [ zero ↦ r.stop | suc n ↦ s ]; steps = r.steps; mark = r.mark; term = r.term }

-- "An engine that reports `room` or `spent` early, at one step wherever the book has one with room and the limit allows it"
unfoldable pub early : Stop → Engine
early s = posing (λ b l. end_result (version_of b) (hurried s (ending b (at_most_one l))))

-- The true run, but for its step figure: k makes one from the limit and the steps taken.
unfoldable pub figured : (ℕ → ℕ → ℕ) → ℕ → Ended → Ended
figured k l r = record { stop = r.stop; steps = k l r.steps; mark = r.mark; term = r.term }

-- "one whose step figure is invented"
unfoldable pub invented_steps : (ℕ → ℕ → ℕ) → Engine
invented_steps k = posing (λ b l. end_result (version_of b) (figured k l (ending b l)))

-- Where the limit of one step is spent, the figure counts on to the whole limit l.
unfoldable pub repeating : ℕ → Ended → Ended
repeating l r = record { stop = r.stop; steps = elim r.stop [ value ↦ r.steps | spent ↦ l | room ↦ r.steps ]; mark = r.mark; term = r.term }

-- one "that takes the first step truly and then repeats that term"
unfoldable pub repeats_first : Engine
repeats_first = posing (λ b l. end_result (version_of b) (repeating l (ending b (at_most_one l))))

-- "one that hands the book back untouched"
unfoldable pub returns_book : Engine
returns_book = posing (λ b l. result (stopped value 0 (size (root_term b))) (padded b))

-- The true run, but for its mark, which is m.
unfoldable pub marked : ℕ → Ended → Ended
marked m r = record { stop = r.stop; steps = r.steps; mark = m; term = r.term }

-- Document 02, (viii): one whose mark is invented; k makes it from the book and the limit.
unfoldable pub invented_mark : (List ℕ → ℕ → ℕ) → Engine
invented_mark k = posing (λ b l. end_result (version_of b) (marked (k b l) (ending b l)))

-- "one with a fixed reply": c to every check and r to every run
unfoldable pub fixed_reply : Result → Result → Engine
fixed_reply c r = record { check = λ b w. c; run = λ b w l. r }

-- "one that turns every book away", by whatever refusals
abbrev pub RefusesAll : Engine → Type 0
RefusesAll E = (b : List ℕ) → ¬ Accepts E b

-- Such is the engine that has one refusal for every book.
abbrev pub one_refusal : ℕ → ℕ → Engine
one_refusal n i = fixed_reply (refusal_result n i) (refusal_result n i)

-- Which demand stops each. A figure k is invented if it is not 1 where the limit is 1 and one step is taken.
pub record Impostors : Type 0 where
  -- "An engine that reports `room` or `spent` early .. obeys demand 3 and is stopped by demand 2";
  pub early_2 : (s : Stop) → s ≢ value → ¬ Demand2 (early s)
  pub early_3 : (s : Stop) → Demand3 (early s)
  -- "one whose step figure is invented, or that takes the first step truly and then repeats that term, is stopped by both."
  pub invented_2 : (k : ℕ → ℕ → ℕ) → k 1 1 ≢ 1 → ¬ Demand2 (invented_steps k)
  pub invented_3 : (k : ℕ → ℕ → ℕ) → k 1 1 ≢ 1 → ¬ Demand3 (invented_steps k)
  pub repeats_2 : ¬ Demand2 repeats_first
  pub repeats_3 : ¬ Demand3 repeats_first
  -- One whose mark is invented is the true engine if the mark is, and else is stopped by demand 2, whatever the accepted book and the limit;
  pub mark_true : (b w : List ℕ) (l : ℕ) → (invented_mark (λ b l. (ending b l).mark)).run b w l ≡ definition.run b w l
  pub mark_2 : (k : List ℕ → ℕ → ℕ) (b : List ℕ) (l : ℕ) → IsBytes b → Accepts definition b → IsLimit l → k b l ≢ (ending b l).mark → ¬ Demand2 (invented_mark k)
  -- and by demand 3, if two laptops that should give the same answer give two marks.
  pub mark_3 : (k : List ℕ → ℕ → ℕ) (b : List ℕ) (l m : ℕ) → IsBytes b → Accepts definition b → IsLimit l → IsLimit m → l ≤ m → (ending b l).stop ≢ spent →
      k b l ≢ k b m → ¬ Demand3 (invented_mark k)
  -- "Demand 2 also shuts out one that hands the book back untouched, one with a fixed reply and one that turns every book away."
  pub returns_book_2 : ¬ Demand2 returns_book
  pub fixed_2 : (c r : Result) → ¬ Demand2 (fixed_reply c r)
  pub refuses_2 : (E : Engine) → RefusesAll E → ¬ Demand2 E
  pub by_one_refusal : (n i : ℕ) → RefusesAll (one_refusal n i)
  -- Demand 3 stops the first of these, and a fixed reply that accepts; one that turns every book away obeys it.
  pub returns_book_3 : ¬ Demand3 returns_book
  pub fixed_3 : (c r : Result) (n : ℕ) → c.answer ≡ accepted n → ¬ Demand3 (fixed_reply c r)
  pub refuses_3 : (E : Engine) → RefusesAll E → Demand3 E
