-- Fields found inside a merge: document 02, (i), over the parts of an intersection and of a merge. Parts are occurrences: a part that stands
-- twice is two. Assumes nothing.
use Rattle.std.specs.Prelude.{ℕ, ◌≡◌, ◌⊎◌}
use Rattle.calculus.specs.Syntax.{Ty, int, top, arrow, inter, field, Term, merge, rcd, Value}
use Rattle.calculus.specs.Subtyping.{TopLike}

-- No part "is a record of that label and not top-like".
abbrev pub NoField : ℕ → Ty → Type 0
NoField l int = Unit {0}
NoField l top = Unit {0}
NoField l (arrow A B) = Unit {0}
NoField l (inter A B) = NoField l A × NoField l B
NoField l (field k A) = l ≡ k → TopLike A

-- "precisely one part is a record of that label and not top-like", and C is its content.
pub data OneField : ℕ → Ty → Ty → Type 0 where
  o_here : {l : ℕ} {C : Ty} → ¬ TopLike C → OneField l (field l C) C
  o_left : {l : ℕ} {A B C : Ty} → OneField l A C → NoField l B → OneField l (inter A B) C
  o_right : {l : ℕ} {A B C : Ty} → NoField l A → OneField l B C → OneField l (inter A B) C

-- "some part is top-like", of whatever head.
abbrev pub SomeTopLike : Ty → Type 0
SomeTopLike int = ⊥
SomeTopLike top = Unit {0}
SomeTopLike (arrow A B) = TopLike B
SomeTopLike (inter A B) = SomeTopLike A ⊎ SomeTopLike B
SomeTopLike (field l A) = TopLike A

-- Of a value: x is the content of a part that is a record of that label and whose type is not top-like. Every part that fits is open.
pub data HasField : ℕ → Term → Term → Type 0 where
  f_here : {l : ℕ} {x : Term} {A : Ty} → Value x A → ¬ TopLike A → HasField l (rcd l x) x
  f_left : {l : ℕ} {v w x : Term} → HasField l v x → HasField l (merge v w) x
  f_right : {l : ℕ} {v w x : Term} → HasField l w x → HasField l (merge v w) x
