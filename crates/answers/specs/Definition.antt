-- check and run as executable definitions: from the book's bytes, the work buffer's bytes and the limit to the whole answer and every
-- byte left. Assumes nothing.
use Rattle.std.specs.Prelude.{ℕ, zero, suc, max, Bool, true, false, List, [], eqb, ltb, length}
use Rattle.std.proofs.Math.Option.{Option, none, some}
use Rattle.calculus.specs.Syntax.{Ty, size_type, Term, size}
use Rattle.calculus.specs.Infer.{Found, found, infer}
use Rattle.calculus.specs.Infer as Infer
use Rattle.calculus.specs.Decide.{is_value}
use Rattle.calculus.specs.Evaluate.{next}
use Rattle.format.specs.declared.Version.{Version}
use Rattle.format.specs.Version.{half_of}
use Rattle.format.specs.Book.{Finding, size_limit, form_finding, version_of, root_of, follow, root_term, type_book, term_book}
use Rattle.answers.specs.Answer.{fault_number, reason_number, Stop, value, spent, room, refused, accepted, stopped, Result, result}
use Rattle.answers.specs.Engine.{Engine, work_length, zeros, padded}

-- "all others zero the work buffer"
unfoldable pub refusal_result : ℕ → ℕ → Result
refusal_result n i = result (refused n i) (zeros work_length)

-- What typing says of a book past row 10: g answers for the type found.
unfoldable pub after_typing : List ℕ → (Ty → Result) → Found → Result
after_typing b g (found A) = g A
after_typing b g (Infer.refused r p) = refusal_result (reason_number r) (follow b (root_of b) p)

-- What rows 2 to 10 say of a book, and past them typing.
unfoldable pub after_form : List ℕ → (Ty → Result) → Option Finding → Result
after_form b g none = after_typing b g (infer [] (root_term b))
after_form b g (some f) = refusal_result (fault_number f.fault) f.cell

-- Rows 1 to 15 in their order; g answers for a book that no row meets. "Refusal 1 touches nothing"
unfoldable pub judge : List ℕ → List ℕ → (Ty → Result) → Result
judge b w g = elim (eqb (length w) work_length) [ true ↦ after_form b g (form_finding b) | false ↦ result (refused 1 0) w ]

-- "A check lays down the type and gives its size"; "A laid-down book has the version it came from."
unfoldable pub shown : Version → Ty → Result
shown v A = result (accepted (size_type A)) (padded (type_book v A))

-- How a run ended: why, after how many steps, with which mark, at which term.
pub record Ended : Type 0 where
  pub stop : Stop
  pub steps : ℕ
  pub mark : ℕ
  pub term : Term

-- Stopped for s after n steps, with the mark k, at the term e.
abbrev pub ended : Stop → ℕ → ℕ → Term → Ended
ended s n k e = record { stop = s; steps = n; mark = k; term = e }

-- "no room when the successor's size exceeds" the limit l
unfoldable pub is_full : ℕ → Option Term → Bool
is_full l none = false
is_full l (some f) = ltb l (size f)

-- "value when the term is one; else spent when exactly the limit has been taken; else no room"
unfoldable pub first_stop : Bool → Bool → Bool → Option Stop
first_stop v s f = elim v [ true ↦ some value | false ↦ elim s [ true ↦ some spent | false ↦ elim f [ true ↦ some room | false ↦ none ] ] ]

-- e after n steps and with the mark k, with m steps left and room for l cells, sums held to -h .. h - 1. "The state of a run carries the greatest size of
-- any term so far". (A term with no stop has a successor: no typed term is stuck.)
unfoldable pub evaluate : ℕ → ℕ → ℕ → ℕ → ℕ → Term → Ended
evaluate h l zero n k e = elim (first_stop (is_value e) true (is_full l (next h e))) [ none ↦ ended spent n k e | some s ↦ ended s n k e ]
evaluate h l (suc m) n k e =
    elim (first_stop (is_value e) false (is_full l (next h e))) [
      | none ↦ elim (next h e) [ none ↦ ended spent n k e | some f ↦ evaluate h l m (suc n) (max k (size f)) f ]
      | some s ↦ ended s n k e
    ]

-- The run of e with the limit m: "so far, the first included".
abbrev pub run_from : ℕ → ℕ → ℕ → Term → Ended
run_from h l m e = evaluate h l m 0 (size e) e

-- "Each carries the steps taken and lays down the term reached", in the version that it came from; "each run answer reports" the mark.
unfoldable pub end_result : Version → Ended → Result
end_result v r = result (stopped r.stop r.steps r.mark) (padded (term_book v r.term))

-- How the run of a book with the limit l ends: "Sums in version 2 are held to the ends of 48 bits, in version 1 to those of 32."
abbrev pub ending : List ℕ → ℕ → Ended
ending b l = run_from (half_of (version_of b)) size_limit l (root_term b)

-- A run answers the same whatever type is found.
abbrev pub reported : List ℕ → ℕ → Ty → Result
reported b l A = end_result (version_of b) (ending b l)

-- "A library checks a book .. and shows its type."
unfoldable pub check : List ℕ → List ℕ → Result
check b w = judge b w (shown (version_of b))

-- It "runs it for at most a given number of steps".
unfoldable pub run : List ℕ → List ℕ → ℕ → Result
run b w l = judge b w (reported b l)

-- The engine that these two are.
abbrev pub definition : Engine
definition = record { check = check; run = run }
