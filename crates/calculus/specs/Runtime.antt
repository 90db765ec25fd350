-- Runtime subtyping: source 001, figure 7, with records. Assumes nothing.
use Rattle.std.specs.Prelude.{ℕ}
use Rattle.calculus.specs.Syntax.{Ty, top, arrow, inter, field}
use Rattle.calculus.specs.Subtyping.{TopLike, Below}

-- Runtime A B: what a step may do to the type B of a term.
pub data Runtime : Ty → Ty → Type 0 where
  -- RSUB-Z
  r_refl : {A : Ty} → Runtime A A
  -- RSUB-TOP
  r_top : {A : Ty} → TopLike A → Runtime top A
  -- RSUB-ARR
  r_arrow : {A B C D : Ty} → Below C A → Runtime B D → Runtime (arrow A B) (arrow C D)
  -- RSUB-AND
  r_inter : {A B C D : Ty} → Runtime A C → Runtime B D → Runtime (inter A B) (inter C D)
  r_field : {l : ℕ} {A B : Ty} → Runtime A B → Runtime (field l A) (field l B)
