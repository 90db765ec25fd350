-- Disjoint types, twice: by the source's specification and by document 01's list. Assumes nothing.
use Rattle.std.specs.Prelude.{ℕ, ◌≢◌}
use Rattle.calculus.specs.Syntax.{Ty, int, top, arrow, inter, field}
use Rattle.calculus.specs.Subtyping.{TopLike, Below}

-- Definition 3.1: every common supertype is top-like.
abbrev pub Disjoint : Ty → Ty → Type 0
Disjoint A B = (C : Ty) → Below A C → Below B C → TopLike C

-- "Int, function and record types": the three heads of a type that is neither Top nor an intersection.
pub data Head : Type 0 where
  number function record_type : Head

-- The head of such a type.
pub data HasHead : Ty → Head → Type 0 where
  h_int : HasHead int number
  h_arrow : {A B : Ty} → HasHead (arrow A B) function
  h_field : {l : ℕ} {A : Ty} → HasHead (field l A) record_type

-- Document 01's list.
pub data DisjointByList : Ty → Ty → Type 0 where
  -- "Top with anything."
  d_top_left : {A : Ty} → DisjointByList top A
  d_top_right : {A : Ty} → DisjointByList A top
  -- "An intersection when both halves are, on either side."
  d_inter_left : {A B C : Ty} → DisjointByList A C → DisjointByList B C → DisjointByList (inter A B) C
  d_inter_right : {A B C : Ty} → DisjointByList A B → DisjointByList A C → DisjointByList A (inter B C)
  -- "Int, function and record types with one another."
  d_heads : {A B : Ty} {h k : Head} → HasHead A h → HasHead B k → h ≢ k → DisjointByList A B
  -- "Two functions if their outputs are."
  d_arrow : {A B C D : Ty} → DisjointByList B D → DisjointByList (arrow A B) (arrow C D)
  -- "Two records if labels differ or contents are disjoint."
  d_labels : {l k : ℕ} {A B : Ty} → l ≢ k → DisjointByList (field l A) (field k B)
  d_field : {l k : ℕ} {A B : Ty} → DisjointByList A B → DisjointByList (field l A) (field k B)
