-- Typed reduction: source 001, figure 6, with records. Document 01's "reading a value under a type". Assumes nothing.
use Rattle.std.specs.Prelude.{ℕ, ℤ}
use Rattle.calculus.specs.Syntax.{Ty, int, arrow, inter, field, Term, lit, unit, lam, merge, rcd, Value}
use Rattle.calculus.specs.Subtyping.{TopLike, Ordinary, Below}

-- Cast v A x: the value v, read under A, is x.
pub data Cast : Term → Ty → Term → Type 0 where
  -- TR-LIT: "a number under Int is itself"
  c_lit : {i : ℤ} → Cast (lit i) int (lit i)
  -- TR-TOP: "Under any other top-like type: the top value."
  c_top : {v : Term} {T A : Ty} → Value v T → Ordinary A → TopLike A → Cast v A unit
  -- TR-ARROW: "a function under a function type above its own keeps body and input and takes the new output type"
  c_arrow : {e : Term} {A B C D : Ty} → ¬ TopLike D → Below C A → Below B D → Cast (lam e A B) (arrow C D) (lam e A D)
  -- "a record of that label has its content read and stays a record"
  c_rcd : {l : ℕ} {v x : Term} {A : Ty} → ¬ TopLike A → Cast v A x → Cast (rcd l v) (field l A) (rcd l x)
  -- TR-MERGEVL, TR-MERGEVR: "a merge is read from either half that can be"
  c_left : {v w x : Term} {T A : Ty} → Value w T → Ordinary A → Cast v A x → Cast (merge v w) A x
  c_right : {v w x : Term} {T A : Ty} → Value v T → Ordinary A → Cast w A x → Cast (merge v w) A x
  -- TR-AND: "under an intersection, merge both readings"
  c_both : {v x y : Term} {A B : Ty} → Cast v A x → Cast v B y → Cast v (inter A B) (merge x y)
