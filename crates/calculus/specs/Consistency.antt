-- Consistent values, twice: by the source's specification and by document 01's list. Assumes nothing.
use Rattle.std.specs.Prelude.{ℕ, ◌≡◌, ℤ}
use Rattle.calculus.specs.Syntax.{Ty, Term, lit, lam, merge, rcd, Value}
use Rattle.calculus.specs.Disjointness.{DisjointByList}
use Rattle.calculus.specs.TypedReduction.{Cast}

-- Definition 3.2: all readings agree.
abbrev pub Consistent : Term → Term → Type 0
Consistent v w = (A : Ty) (x y : Term) → Cast v A x → Cast w A y → x ≡ y

-- Document 01's list. Its terms are values, by induction.
pub data ConsistentByList : Term → Term → Type 0 where
  -- "equal numbers"
  k_lit : {i : ℤ} → ConsistentByList (lit i) (lit i)
  -- "functions with the same body and input type, as trees"
  k_lam : {e : Term} {A B C : Ty} → ConsistentByList (lam e A B) (lam e A C)
  -- "records of one label with consistent contents"
  k_rcd : {l : ℕ} {v w : Term} → ConsistentByList v w → ConsistentByList (rcd l v) (rcd l w)
  -- "a merge and a value, either way about, if both halves are consistent with the value"
  k_left : {v w x : Term} → ConsistentByList v x → ConsistentByList w x → ConsistentByList (merge v w) x
  k_right : {v w x : Term} → ConsistentByList x v → ConsistentByList x w → ConsistentByList x (merge v w)
  -- "any two of disjoint types"
  k_disjoint : {v w : Term} {A B : Ty} → Value v A → Value w B → DisjointByList A B → ConsistentByList v w
