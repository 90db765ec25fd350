-- Top-like types, ordinary types and subtyping: source 001, figure 3 and section 5.1, with records. Document 01: "Top-like", "Below".
-- Assumes nothing.
use Rattle.std.specs.Prelude.{ℕ}
use Rattle.calculus.specs.Syntax.{Ty, int, top, arrow, inter, field}

-- "Top-like: Top; a function type with a top-like output; an intersection of two such; a record type over one."
abbrev pub TopLike : Ty → Type 0
TopLike int = ⊥
TopLike top = Unit {0}
TopLike (arrow A B) = TopLike B
TopLike (inter A B) = TopLike A × TopLike B
TopLike (field l A) = TopLike A

-- "Ordinary types are all types that are not intersections."
abbrev pub Ordinary : Ty → Type 0
Ordinary int = Unit {0}
Ordinary top = Unit {0}
Ordinary (arrow A B) = Unit {0}
Ordinary (inter A B) = ⊥
Ordinary (field l A) = Unit {0}

-- Document 01's "below".
pub data Below : Ty → Ty → Type 0 where
  -- S-Z: "Int is below Int."
  b_int : Below int int
  -- S-TOP: "Every type is below a top-like one."
  b_top : {A B : Ty} → TopLike B → Below A B
  -- S-ANDL1, S-ANDL2: "An intersection is below what either half is below."
  b_left : {A B C : Ty} → Below A C → Below (inter A B) C
  b_right : {A B C : Ty} → Below B C → Below (inter A B) C
  -- S-ANDR: "A type is below an intersection if below both halves."
  b_both : {A B C : Ty} → Below A B → Below A C → Below A (inter B C)
  -- S-ARR: "A function type is below another if its input is above and its output below."
  b_arrow : {A B C D : Ty} → Below C A → Below B D → Below (arrow A B) (arrow C D)
  -- "A record type is below one of the same label if its content is."
  b_field : {l : ℕ} {A B : Ty} → Below A B → Below (field l A) (field l B)
