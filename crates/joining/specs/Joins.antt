-- What a join answers and leaves, for every project's lent bytes, every told length, every part and every work buffer. Assumes nothing.
use Rattle.std.specs.Prelude.{ℕ, suc, ◌+◌, ◌≤◌, ◌<◌, ◌-◌, ◌≡◌, ◌↔◌, ◌≢◌, ◌⊎◌, List, [], length, take, drop}
use Rattle.calculus.specs.Syntax.{Ty, merge, size}
use Rattle.calculus.specs.Typing.{Typed}
use Rattle.calculus.specs.Numbers.{NoSum}
use Rattle.calculus.specs.Sheet.{Sheet}
use Rattle.format.specs.declared.Version.TheVariants.{One}
use Rattle.format.specs.Cell.{IsBytes}
use Rattle.format.specs.Book.{size_limit, WellFormed, count, version_of, root_term}
use Rattle.format.specs.Joint.{joint_count, joint, JointOf}
use Rattle.answers.specs.Answer.{refused, accepted}
use Rattle.answers.specs.Engine.{work_length, IsWork, zeros}
use Rattle.answers.specs.Definition.{definition, check}
use Rattle.answers.specs.Demands.{Accepts, Demand2For, Demand3For}
use Rattle.answers.specs.Restamping.{RestampedFor}
use Rattle.answers.specs.Sheets.{SheetRuns}
use Rattle.engine.specs.Rows.{RefusalRow}
use Rattle.joining.specs.declared.Which.{Which}
use Rattle.joining.specs.declared.Which.TheVariants.{Project, Part, Joint}
use Rattle.joining.specs.declared.Joined.{Joined}
use Rattle.joining.specs.Join.{join_answer, lent_length, joined}

-- Of a joint whose halves are accepted, only 10 and 14 can be said, at its last cell: it is too large, or the two roots have types and their merge has none.
pub data JointRefusal (p q : List ℕ) : ℕ → ℕ → Type 0 where
  too_large : size_limit < suc (size (root_term p) + size (root_term q)) → JointRefusal p q 10 (count p + count q)
  conflict : {A B : Ty} → suc (size (root_term p) + size (root_term q)) ≤ size_limit → Typed [] (root_term p) A → Typed [] (root_term q) B →
      ((C : Ty) → ¬ Typed [] (merge (root_term p) (root_term q)) C) → JointRefusal p q 14 (count p + count q)

-- A work buffer, lent bytes and a told length that neither 1 nor the project's 2 for these meets.
pub record Lent (l : List ℕ) (n : ℕ) (w : List ℕ) : Type 0 where
  pub work : IsWork w
  pub long : length l ≡ lent_length
  pub within : n ≤ lent_length

-- "both books were accepted on their own"
pub record BothAccepted (p q : List ℕ) : Type 0 where
  pub project : Accepts definition p
  pub part : Accepts definition q

-- Why a join of l, of which n bytes hold the project, and q is refused: which book is meant, the number and the cell.
pub data JoinRow (l : List ℕ) (n : ℕ) (q w : List ℕ) : Which → ℕ → ℕ → Type 0 where
  buffer : length w ≢ work_length → JoinRow l n q w Joint 1 0
  lent : IsWork w → (length l ≢ lent_length) ⊎ (lent_length < n) → JoinRow l n q w Project 2 0
  of_project : {m i : ℕ} → Lent l n w → RefusalRow (take n l) w m i → JoinRow l n q w Project m i
  of_part : {m i : ℕ} → Lent l n w → Accepts definition (take n l) → RefusalRow q w m i → JoinRow l n q w Part m i
  full : Lent l n w → BothAccepted (take n l) q → size_limit < joint_count (take n l) q → JoinRow l n q w Joint 16 0
  of_joint : {m i : ℕ} → Lent l n w → BothAccepted (take n l) q → joint_count (take n l) q ≤ size_limit → JointRefusal (take n l) q m i → JoinRow l n q w Joint m i

-- What can be said of the joint of p and q: 16 of no cell, 10 and 14 of its last.
abbrev pub SaidOfJoint : List ℕ → List ℕ → ℕ → ℕ → Type 0
SaidOfJoint p q m i = ((m ≡ 16) × (i ≡ 0)) ⊎ (((m ≡ 10) ⊎ (m ≡ 14)) × (i ≡ count p + count q))

-- When two books are joined: each is accepted by itself, there are cells and room for both, and the calculus has a type for the merge of the two roots.
pub record Joinable (p q : List ℕ) : Type 0 where
  pub project : WellFormed p × ((A : Ty) × Typed [] (root_term p) A)
  pub part : WellFormed q × ((A : Ty) × Typed [] (root_term q) A)
  pub few : joint_count p q ≤ size_limit
  pub small : suc (size (root_term p) + size (root_term q)) ≤ size_limit
  pub typed : (A : Ty) × Typed [] (merge (root_term p) (root_term q)) A

-- Project and part may change places: what is joinable stays so. (The joint's bytes differ.)
abbrev pub EitherWay : Type 0
EitherWay = (p q : List ℕ) → Joinable p q ↔ Joinable q p

-- "all that an accepted book is owed"
pub record Owed (b : List ℕ) : Type 0 where
  pub bytes : IsBytes b
  pub accepts : Accepts definition b
  pub demand2 : Demand2For definition b
  pub demand3 : Demand3For definition b
  pub restamped : version_of b ≡ One → NoSum (root_term b) → RestampedFor definition b
  pub sheet : Sheet (root_term b) → SheetRuns definition b

-- The joint b, as an accepted join leaves it: k are the lent bytes, w is the work buffer as lent and v as left, m the type's size and r the join's byte count.
pub record Written (b w k v : List ℕ) (m r : ℕ) : Type 0 where
  -- the call "gives back how many hold the joint"
  pub bytes : r ≡ length b
  -- "It is written over the project's lent 32,768 bytes,
  pub joint : take r k ≡ b
  -- the rest zero."
  pub rest : drop r k ≡ zeros (lent_length - r)
  -- the answer is the check's, and "the work buffer is left as a check with the same answer leaves it"
  pub answer : (check b w).answer ≡ accepted m
  pub left : v ≡ (check b w).left
  -- "A joint book has all that an accepted book is owed."
  pub owed : Owed b

-- The answer r is a refusal of this book, with this number and cell.
pub record Says (r : Joined) (x : Which) (m i : ℕ) : Type 0 where
  pub which : r.which ≡ x
  pub answer : join_answer r.answer ≡ refused m i

-- The project's lent bytes l, which are k afterwards, and how many of them hold it, n; the part q; the work buffer w as lent and v as left; the answer r.
pub record Joins (l k : List ℕ) (n : ℕ) (q w v : List ℕ) (r : Joined) : Type 0 where
  -- the book that is meant, the answer, the byte count, every lent byte and every byte left are the definition's
  pub which : r.which ≡ (joined l n q w).which
  pub answer : join_answer r.answer ≡ (joined l n q w).answer
  pub bytes : r.bytes ≡ (joined l n q w).bytes
  pub lent : k ≡ (joined l n q w).lent
  pub left : v ≡ (joined l n q w).left
  -- "Refusal 1 comes first, under joint"
  pub first : length w ≢ work_length → Says r Joint 1 0
  -- "Project bytes lent at another length are answered 2, project"; so is a project said to be longer than what is lent
  pub another_length : IsWork w → (length l ≢ lent_length) ⊎ (lent_length < n) → Says r Project 2 0
  -- "The project is checked before the part": its refusal is the answer, whatever the part is,
  pub project_first : Lent l n w → (m i : ℕ) → (check (take n l) w).answer ≡ refused m i → Says r Project m i
  -- then the part's,
  pub part_second : Lent l n w → Accepts definition (take n l) → (m i : ℕ) → (check q w).answer ≡ refused m i → Says r Part m i
  -- then "16, under joint with cell 0, when the joint has more than 4,095 cells, tested after both books were accepted on their own and before the joint is",
  pub full : Lent l n w → BothAccepted (take n l) q → size_limit < joint_count (take n l) q → Says r Joint 16 0
  -- and then the joint's own rows
  pub joint_last : Lent l n w → BothAccepted (take n l) q → joint_count (take n l) q ≤ size_limit →
      JointOf (take n l) q × (r.which ≡ Joint) × (join_answer r.answer ≡ (check (joint (take n l) q) w).answer)
  -- a refusal: by a row that meets one of the books, or the two together;
  pub refuses : (m i : ℕ) → join_answer r.answer ≡ refused m i → JoinRow l n q w r.which m i
  -- of a joint only 10, 14 and 16;
  pub of_joint : IsWork w → (m i : ℕ) → Says r Joint m i → SaidOfJoint (take n l) q m i
  -- "Any refusal leaves all the project's lent bytes, those past the project too", and gives "0 when refused";
  pub untouched : (m i : ℕ) → join_answer r.answer ≡ refused m i → (k ≡ l) × (r.bytes ≡ 0)
  -- "the work buffer is left as a check with the same answer leaves it": 1 touches nothing, all others zero it
  pub kept : (i : ℕ) → join_answer r.answer ≡ refused 1 i → v ≡ w
  pub zeroed : (m i : ℕ) → m ≢ 1 → join_answer r.answer ≡ refused m i → v ≡ zeros work_length
  -- accepted, under joint, precisely if the two books are joinable; what is then left
  pub accepts : Lent l n w → ((m : ℕ) × (join_answer r.answer ≡ accepted m)) ↔ Joinable (take n l) q
  pub writes : (m : ℕ) → join_answer r.answer ≡ accepted m → (r.which ≡ Joint) × Lent l n w × JointOf (take n l) q × Written (joint (take n l) q) w k v m r.bytes
