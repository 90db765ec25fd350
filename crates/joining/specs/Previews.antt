-- Document 02, (vii): what a preview answers and leaves, for every project's lent bytes, every told length, every part and every work buffer; and that it agrees
-- with a join of a copy. Assumes nothing.
use Rattle.std.specs.Prelude.{ℕ, ◌≡◌, List, [], take}
use Rattle.calculus.specs.Syntax.{Ty, merge, size_type}
use Rattle.calculus.specs.Typing.{Typed}
use Rattle.format.specs.Book.{root_term}
use Rattle.answers.specs.Answer.{accepted}
use Rattle.answers.specs.Engine.{IsWork}
use Rattle.joining.specs.declared.Joined.{Joined}
use Rattle.joining.specs.Join.{join_answer, joined}
use Rattle.joining.specs.Joins.{Joins}

-- "A preview takes what a join takes": the project's lent bytes l, which are k afterwards, and how many of them hold it, n; the part q; the work buffer w as lent
-- and v as left; the answer r.
pub record Previews (l k : List ℕ) (n : ℕ) (q w v : List ℕ) (r : Joined) : Type 0 where
  -- "It gives the answer
  pub which : r.which ≡ (joined l n q w).which
  pub answer : join_answer r.answer ≡ (joined l n q w).answer
  -- and byte count that the join would give on a copy,
  pub bytes : r.bytes ≡ (joined l n q w).bytes
  -- with the type's size if accepted,
  pub size_shown : (m : ℕ) → join_answer r.answer ≡ accepted m → (A : Ty) × Typed [] (merge (root_term (take n l)) (root_term q)) A × (m ≡ size_type A)
  -- and leaves the work buffer alike,
  pub left : v ≡ (joined l n q w).left
  -- with not a lent byte of the project altered."
  pub unaltered : k ≡ l
  -- Every sentence about a join holds of this answer and work buffer, with the copy's lent bytes as the join would leave them.
  pub foresees : Joins l (joined l n q w).lent n q w v r

-- What a join answers, r', and leaves in the work buffer, v', is what a preview answered, r, and left, v.
pub record Foreseen (v v' : List ℕ) (r r' : Joined) : Type 0 where
  -- the book that is meant, the answer, the byte count
  pub answer : r ≡ r'
  -- the work buffer
  pub left : v ≡ v'

-- "Proof: preview and join on a copy agree for every pair of books": whatever the lent bytes, the told length, the part and the work buffer, and whichever two
-- calls meet the two contracts.
abbrev pub PreviewAgrees : Type 0
PreviewAgrees = (l k k' : List ℕ) (n : ℕ) (q w v v' : List ℕ) (r r' : Joined) → Previews l k n q w v r → Joins l k' n q w v' r' → Foreseen v v' r r'

-- A preview also agrees with the join that follows it, on the project's lent bytes k and the work buffer v as the preview left them;
abbrev pub JoinFollows : Type 0
JoinFollows = (l k k' : List ℕ) (n : ℕ) (q w v v' : List ℕ) (r r' : Joined) → Previews l k n q w v r → Joins k k' n q v v' r' → Foreseen v v' r r'

-- and with a join that has another work buffer of 65,536 bytes: what a work buffer held before makes no difference.
abbrev pub AnyWorkAgrees : Type 0
AnyWorkAgrees = (l k k' : List ℕ) (n : ℕ) (q w w' v v' : List ℕ) (r r' : Joined) → IsWork w → IsWork w' → Previews l k n q w v r → Joins k k' n q w' v' r' → Foreseen v v' r r'
