-- The turns of a run over the lent buffer: what a step needs, and what it answers and leaves. Assumes nothing.
use Rattle.std.specs.Prelude.{ℕ, ◌+◌, ◌≤◌, ◌<◌, max, ◌≡◌, true, false, List, [], ltb, length}
use Rattle.std.specs.declared.ops.ControlFlow.{ControlFlow}
use Rattle.std.specs.declared.ops.ControlFlow.TheVariants.{Continue, Break}
use Rattle.std.proofs.Math.Option.{some}
use Rattle.calculus.specs.Syntax.{Ty, Term, size}
use Rattle.calculus.specs.Typing.{Typed}
use Rattle.calculus.specs.Decide.{is_value}
use Rattle.calculus.specs.Evaluate.{next}
use Rattle.format.specs.declared.Version.{Version}
use Rattle.format.specs.Version.{half_of}
use Rattle.format.specs.Terms.{from_term, WideFits}
use Rattle.format.specs.Book.{size_limit}
use Rattle.answers.specs.Answer as Answer
use Rattle.answers.specs.Answer.{stopped}
use Rattle.answers.specs.Definition.{ended, run_from}
use Rattle.layout.specs.Encoding.{EncodedTree}
use Rattle.answers.specs.Cases.{stop_answer}
use Rattle.answers.specs.declared.Stop.{Stop}
use Rattle.answers.specs.declared.Stop.TheVariants.{Value, Spent, Room}
use Rattle.running.specs.Places.{Standing, Runnable, FocusReady, Settled}
use Rattle.running.specs.declared.Focus.{Focus}
use Rattle.running.specs.declared.State.{State}
use Rattle.running.specs.declared.End.{End}

-- The term is encoded in the first n cells of the work buffer, as a tree of its own.
pub record EncodedTerm (w : List ℕ) (n : ℕ) (e : Term) : Type 0 where
  pub tree : EncodedTree w n (from_term e)
  pub fits : WideFits e

-- A typed term is encoded so.
pub record TypedEncoded (w : List ℕ) (n : ℕ) : Type 0 where
  pub term : Term
  pub encoded : EncodedTerm w n term
  pub type : Ty
  pub typed : Typed [] term type

-- The same in a work buffer, and a buffer of 4,096 cells.
pub record StepReady (s w : List ℕ) (n : ℕ) : Type 0 where
  pub long : 32768 ≤ length s
  pub work : length w ≡ 65536
  pub at : TypedEncoded w n

-- The term encoded there has its place.
pub record Starts (w v : List ℕ) (n : ℕ) (r : Focus) : Type 0 where
  pub long : length v ≡ 65536
  pub settled : Settled r
  pub says : (e : Term) (A : Ty) → EncodedTerm w n e → Typed [] e A → Standing v r e

-- A state within the limit l, and a buffer of 4,096 cells.
pub record TurnReady (s w : List ℕ) (x : State) (l : ℕ) : Type 0 where
  pub long : 32768 ≤ length s
  pub ready : FocusReady w x.focus
  pub settled : Settled x.focus
  pub taken : x.steps ≤ l

-- One turn of e, which stands at the focus of the state x, with the limit l: r is the answer, and v the work buffer then; u is the version of the book, by
-- which sums are held, here and below. "value when the term is one; else spent when exactly the limit has been taken; else no room when the
-- successor's size exceeds 4,095"
pub data TurnOf (u : Version) (v : List ℕ) (x : State) (l : ℕ) (e : Term) (r : ControlFlow Stop State) : Type 0 where
  t_value : is_value e ≡ true → r ≡ Break (Value x.steps) → Standing v x.focus e → TurnOf u v x l e r
  t_spent : is_value e ≡ false → x.steps ≡ l → r ≡ Break (Spent x.steps) → Standing v x.focus e → TurnOf u v x l e r
  t_room : {f : Term} → is_value e ≡ false → x.steps < l → next (half_of u) e ≡ some f → ltb size_limit (size f) ≡ true →
      r ≡ Break (Room x.steps) → Standing v x.focus e → TurnOf u v x l e r
  -- document 02, (viii): "The state of a run carries the greatest size of any term so far"
  t_next : {f : Term} {y : State} → is_value e ≡ false → x.steps < l → next (half_of u) e ≡ some f → ltb size_limit (size f) ≡ false → r ≡ Continue y →
      y.steps ≡ x.steps + 1 → y.mark ≡ max x.mark (size f) → Settled y.focus → Standing v y.focus f → TurnOf u v x l e r

-- One turn of the term that stands there.
pub record Steps (u : Version) (w v : List ℕ) (x : State) (l : ℕ) (r : ControlFlow Stop State) : Type 0 where
  pub says : (e : Term) → Standing w x.focus e → Runnable e → TurnOf u v x l e r

-- A term that has its place, and a buffer to encode it in.
pub record WholeReady (s w : List ℕ) (x : Focus) : Type 0 where
  pub long : 32768 ≤ length s
  pub ready : FocusReady w x

-- The whole term is encoded in the first r cells.
pub record EncodesWhole (w v : List ℕ) (x : Focus) (r : ℕ) : Type 0 where
  pub says : (e : Term) → Standing w x e → Runnable e → EncodedTerm v r e

-- The whole run of e with limit l: how it ended, by the definition, with which mark, and the term reached, which is encoded in the work buffer.
pub record RunOf (u : Version) (v : List ℕ) (l : ℕ) (e : Term) (r : End) : Type 0 where
  pub stop : Answer.Stop
  pub steps : ℕ
  pub mark : ℕ
  pub term : Term
  pub ends : run_from (half_of u) size_limit l e ≡ ended stop steps mark term
  pub answer : stop_answer r.stop r.mark ≡ stopped stop steps mark
  pub encoded : EncodedTerm v r.cells term

-- The whole run of the term encoded there.
pub record Runs (u : Version) (w v : List ℕ) (n l : ℕ) (r : End) : Type 0 where
  pub says : (e : Term) (A : Ty) → EncodedTerm w n e → Typed [] e A → RunOf u v l e r
