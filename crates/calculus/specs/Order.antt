-- Document 02, (v): "Left and right don't matter. Head office asks in which order to list parts." Stated with the source's definitions 3.1 and 3.2; document
-- 01's lists derive the same (`ListsAgree`). Assumes nothing.
use Rattle.std.specs.Prelude.{ℕ, ◌≡◌, ◌↔◌, T}
use mathlib.Core.List.{List, [], ◌∷◌, ◌++◌, Permᴰ as Permutation}
use Rattle.calculus.specs.Syntax.{Ty, size_type, Term, merge, rcd, size, IsValue, fold_parts}
use Rattle.calculus.specs.Subtyping.{Below}
use Rattle.calculus.specs.TypedReduction.{Cast}
use Rattle.calculus.specs.Typing.{Typed, HasType}
use Rattle.calculus.specs.Decide.{is_closed}

-- Reordered v w: w is v
pub data Reordered : Term → Term → Type 0 where
  -- "with its halves swapped,
  swapped : {v w : Term} → Reordered (merge v w) (merge w v)
  -- or three merged values regrouped", either way;
  to_right : {u v w : Term} → Reordered (merge (merge u v) w) (merge u (merge v w))
  to_left : {u v w : Term} → Reordered (merge u (merge v w)) (merge (merge u v) w)
  -- Its right half so reordered (the left one: `swapped` before and after); a record's content so reordered;
  in_half : {u v w : Term} → Reordered v w → Reordered (merge u v) (merge u w)
  in_record : {l : ℕ} {v w : Term} → Reordered v w → Reordered (rcd l v) (rcd l w)
  -- as it was; or reordered so twice.
  unmoved : {v : Term} → Reordered v v
  and_then : {u v w : Term} → Reordered u v → Reordered v w → Reordered u w

-- The parts of a value that are no merges, as they are listed.
abbrev pub parts : Term → List Term
parts = fold_parts (λ e. e ∷ []) ◌++◌

-- Every order of the parts is a reordering, however they are grouped.
abbrev pub EveryOrder : Type 0
EveryOrder = (v w : Term) → Permutation (parts v) (parts w) → Reordered v w

-- What is promised of a value v and of w, the same reordered, under the binders Γ.
pub record SameValue (Γ : List Ty) (v w : Term) : Type 0 where
  -- "it is accepted exactly when the original is."
  pub accepted : HasType Γ v ↔ HasType Γ w
  -- "Once accepted, under every type both readings are possible together
  pub together : HasType Γ v → (A : Ty) → ((x : Term) × Cast v A x) ↔ ((x : Term) × Cast w A x)
  -- and equal";
  pub equal : HasType Γ v → (A : Ty) (x y : Term) → Cast v A x → Cast w A y → x ≡ y
  -- there is only one. (Of w too: any two are equal to one of v.)
  pub only : HasType Γ v → (A : Ty) (x y : Term) → Cast v A x → Cast v A y → x ≡ y
  -- The types need not be the same (`A & B`, `B & A`), but each is below the other. Values and types are of one size.
  pub types : (A B : Ty) → Typed Γ v A → Typed Γ w B → Below A B × Below B A × (size_type A ≡ size_type B)
  pub sizes : size v ≡ size w

-- The promise: "For a closed value that is a merge", or a record whose content is one.
abbrev pub OrderFree : Type 0
OrderFree = (Γ : List Ty) (v w : Term) → IsValue v → T (is_closed 0 v) → Reordered v w → SameValue Γ v w
