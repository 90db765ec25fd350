-- What the functions behind the public calls need, answer and leave. Assumes nothing.
use Rattle.std.specs.Prelude as Std
use Rattle.std.specs.Prelude.{ℕ, ◌≤◌, ◌≡◌, ◌≢◌, List, [], length, Ok, Err}
use Rattle.calculus.specs.Syntax.{Ty, size, Term}
use Rattle.calculus.specs.Typing.{Typed}
use Rattle.format.specs.declared.Version.{Version}
use Rattle.format.specs.Version.{half_of}
use Rattle.format.specs.Book.{WellFormed, version_of, root_term, root_of, follow, size_limit}
use Rattle.answers.specs.Answer.{Answer, Result, refused, reason_number}
use Rattle.answers.specs.Engine.{IsWork, zeros, work_length}
use Rattle.answers.specs.Definition.{after_typing, end_result, run_from}
use Rattle.calculus.specs.Infer as Infer
use Rattle.calculus.specs.Infer.{Reason, found, infer}
use Rattle.answers.specs.Cases.{refusal_answer, run_answer}
use Rattle.answers.specs.declared.Refusal.{Refusal}
use Rattle.answers.specs.declared.RunOutcome.{RunOutcome}
use Rattle.answers.specs.declared.Refusal.TheVariants.{Buffer}
use Rattle.book.specs.Form.{FormCheck}
use Rattle.book.specs.declared.Root.{Root}
use Rattle.cells.specs.Held.{HoldsType, HoldsTerm}
use Rattle.format.specs.Terms.{TermFits}

-- What every call answers on rows 1 to 10, with a work buffer of n bytes: row 1 is tested first, rows 2 to 10 are the format's.
pub data FirstRows (b : List ℕ) (n : ℕ) (x : Std.Result Root Refusal) : Type 0 where
  row_1 : n ≢ work_length → x ≡ Err Buffer → FirstRows b n x
  rows_2_to_10 : n ≡ work_length → FormCheck b x → FirstRows b n x

-- "Refusal 1 touches nothing; all others zero the work buffer."
pub record LeftByRefusal (w v : List ℕ) : Type 0 where
  pub zeroed : IsWork w → v ≡ zeros work_length
  pub untouched : length w ≢ work_length → v ≡ w

-- A well-formed book, its version, and its root's cell.
pub record Rooted (b : List ℕ) (r : Root) : Type 0 where
  pub form : WellFormed b
  pub version : r.version ≡ version_of b
  pub root : r.cell ≡ root_of b

-- A work buffer to load it into.
pub record Findable (b s : List ℕ) (r : Root) : Type 0 where
  pub book : Rooted b r
  pub long : length s ≡ 65536

-- The root's type, held by the work buffer t at c, and the root, still held; or typing's refusal, which names a cell of the book.
pub data FindsRoot (b t : List ℕ) (i : ℕ) (r : Std.Result ℕ Refusal) : Type 0 where
  finds : {A : Ty} {c : ℕ} → r ≡ Ok c → infer [] (root_term b) ≡ found A → HoldsType t c A → HoldsTerm t i (root_term b) → FindsRoot b t i r
  refuses : {x : Reason} {p : List ℕ} {q : Refusal} → r ≡ Err q → infer [] (root_term b) ≡ Infer.refused x p →
      refusal_answer q ≡ refused (reason_number x) (follow b (root_of b) p) → FindsRoot b t i r

-- The same book and a work buffer.
pub record Formed (b w : List ℕ) (r : Root) : Type 0 where
  pub book : Rooted b r
  pub work : IsWork w

-- The answer a and the bytes v are those of the result x.
pub record Gives (v : List ℕ) (a : Answer) (x : Result) : Type 0 where
  pub answer : a ≡ x.answer
  pub left : v ≡ x.left

-- What is answered past row 10: g answers for the type found.
abbrev pub AfterTyping : List ℕ → (Ty → Result) → List ℕ → Answer → Type 0
AfterTyping b g v a = Gives v a (after_typing b g (infer [] (root_term b)))

-- A typed book's root, held in the work buffer; u is the version of the book, which its numbers fit.
pub record RootAt (u : Version) (w : List ℕ) (i : ℕ) (e : Term) : Type 0 where
  pub long : length w ≡ 65536
  pub holds : HoldsTerm w i e
  pub small : size e ≤ size_limit
  pub fits : TermFits (half_of u) e
  pub type : Ty
  pub typed : Typed [] e type

-- Some term is such a root.
pub record SomeRoot (u : Version) (w : List ℕ) (i : ℕ) : Type 0 where
  pub term : Term
  pub root : RootAt u w i term

-- The run of the root: the definition's answer and bytes.
pub record RunsRoot (u : Version) (w v : List ℕ) (i limit : ℕ) (r : RunOutcome) : Type 0 where
  pub says : (e : Term) → RootAt u w i e → Gives v (run_answer r) (end_result u (run_from (half_of u) size_limit limit e))
