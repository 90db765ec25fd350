-- What the functions behind a join need, answer and leave. Assumes nothing.
use Rattle.std.specs.Prelude.{ℕ, ◌≡◌, List, length}
use Rattle.answers.specs.Answer.{result, accepted}
use Rattle.answers.specs.Engine.{zeros}
use Rattle.answers.specs.Definition.{check}
use Rattle.answers.specs.Cases.{refusal_answer}
use Rattle.answers.specs.declared.Refusal.{Refusal}
use Rattle.joining.specs.declared.Which.{Which}
use Rattle.joining.specs.declared.JoinAnswer.{JoinAnswer}
use Rattle.joining.specs.declared.JoinAnswer.TheVariants.{Refused}
use Rattle.joining.specs.declared.Joined.{Joined}
use Rattle.joining.specs.Join.{JoinResult, join_answer, lent_length, joined}
use Rattle.joining.specs.Joins.{Lent}

-- A refusal of the book x, with no bytes.
pub record RefusesFor (x : Which) (a : JoinAnswer) (r : Joined) : Type 0 where
  pub which : r.which ≡ x
  pub answer : r.answer ≡ a
  pub bytes : r.bytes ≡ 0

-- The same, with the work buffer w zeroed.
pub record RefusesZeroed (x : Which) (a : JoinAnswer) (w v : List ℕ) (r : Joined) : Type 0 where
  pub says : RefusesFor x a r
  pub zeroed : v ≡ zeros (length w)

-- The check of b accepts it, with a type of size n, and leaves v of the work buffer w;
pub record Passes (b w v : List ℕ) (n : ℕ) : Type 0 where
  pub is : check b w ≡ result (accepted n) v

-- or it refuses b, which is said of the book x.
pub record TurnsDown (x : Which) (b w v : List ℕ) (r : Joined) : Type 0 where
  pub reason : Refusal
  pub says : RefusesFor x (Refused reason) r
  pub is : check b w ≡ result (refusal_answer reason) v

-- A buffer of zeros for the joint.
pub record JointBuffer (d : List ℕ) : Type 0 where
  pub zeros_only : d ≡ zeros lent_length

-- The answer r and the bytes v are those of the result x.
pub record Judged (v : List ℕ) (r : Joined) (x : JoinResult) : Type 0 where
  pub which : r.which ≡ x.which
  pub answer : join_answer r.answer ≡ x.answer
  pub bytes : r.bytes ≡ x.bytes
  pub left : v ≡ x.left

-- All rows, l being the project's lent bytes, of which n hold it, q the part, w and v the work buffer: an acceptance, and the lent bytes are to be d;
pub record AcceptsJoint (l : List ℕ) (n : ℕ) (q w d v : List ℕ) (r : Joined) : Type 0 where
  pub lent : Lent l n w
  pub says : Judged v r (joined l n q w)
  pub written : d ≡ (joined l n q w).lent

-- or a refusal, and they stay l.
pub record RefusesJoin (l : List ℕ) (n : ℕ) (q w v : List ℕ) (r : Joined) : Type 0 where
  pub says : Judged v r (joined l n q w)
  pub stays : l ≡ (joined l n q w).lent
