-- Runtime subtyping: what it keeps of subtyping, top-likeness and disjointness. Assumes nothing.
use mathlib.Core.Path.{◌≡◌, refl, ap, ap₂, fun_ext, sym}
use mathlib.Core.Bool.{◌&&◌}
use Rattle.calculus.specs.Syntax.{Ty}
use Rattle.calculus.specs.Subtyping.{TopLike, Below, b_top, b_left, b_right, b_both, b_arrow, b_field}
use Rattle.calculus.specs.Disjointness.{Disjoint}
use Rattle.calculus.specs.Runtime.{Runtime, r_refl, r_top, r_arrow, r_inter, r_field}
use Rattle.calculus.specs.Decide.{is_disjoint, disjoint_arrow, disjoint_field}
use Rattle.calculus.proofs.Subtyping.{top_like_above, below_refl, below_trans}
use Rattle.calculus.proofs.Disjointness.{disjoint_sym, is_disjoint_means}
use Rattle.calculus.proofs.Decisions.{is_top_like_says, is_disjoint_top_like_left}

pub runtime_below : {A B : Ty} → Runtime A B → Below A B
runtime_below r_refl = below_refl _
runtime_below (r_top t) = b_top t
runtime_below (r_arrow b r) = b_arrow b (runtime_below r)
runtime_below (r_inter r s) = b_both (b_left (runtime_below r)) (b_right (runtime_below s))
runtime_below (r_field r) = b_field (runtime_below r)

-- top-likeness is kept both ways
pub runtime_top_like : {A B : Ty} → Runtime A B → TopLike A → TopLike B
runtime_top_like r t = top_like_above t (runtime_below r)

pub runtime_top_like' : {A B : Ty} → Runtime A B → TopLike B → TopLike A
runtime_top_like' r_refl t = t
runtime_top_like' (r_top u) t = tt
runtime_top_like' (r_arrow b r) t = runtime_top_like' r t
runtime_top_like' (r_inter r s) t = (runtime_top_like' r t.0, runtime_top_like' s t.1)
runtime_top_like' (r_field r) t = runtime_top_like' r t

pub runtime_trans : {A B C : Ty} → Runtime A B → Runtime B C → Runtime A C
runtime_trans r_refl s = s
runtime_trans (r_top t) s = r_top (runtime_top_like s t)
runtime_trans (r_arrow b r) r_refl = r_arrow b r
runtime_trans (r_arrow b r) (r_arrow c s) = r_arrow (below_trans c b) (runtime_trans r s)
runtime_trans (r_inter r q) r_refl = r_inter r q
runtime_trans (r_inter r q) (r_inter s p) = r_inter (runtime_trans r s) (runtime_trans q p)
runtime_trans (r_field r) r_refl = r_field r
runtime_trans (r_field r) (r_field s) = r_field (runtime_trans r s)

-- The test for disjointness does not see the difference: it reads no input of a function type, and it passes every top-like type.
runtime_is_disjoint : {A A' : Ty} → Runtime A A' → is_disjoint A ≡ is_disjoint A'
unfolding is_disjoint
runtime_is_disjoint r_refl = refl
runtime_is_disjoint (r_top {A} t) = fun_ext λ B. sym (is_disjoint_top_like_left A B ((is_top_like_says A).1 t))
runtime_is_disjoint (r_arrow b r) = ap disjoint_arrow (runtime_is_disjoint r)
runtime_is_disjoint (r_inter r s) = ap₂ (λ f g B. f B && g B) (runtime_is_disjoint r) (runtime_is_disjoint s)
runtime_is_disjoint (r_field {l} r) = ap (disjoint_field l) (runtime_is_disjoint r)

runtime_disjoint_left : {A A' B : Ty} → Runtime A A' → Disjoint A' B → Disjoint A B
runtime_disjoint_left {A} {A'} {B} r d = (is_disjoint_means A B).0 (rw (runtime_is_disjoint r) ((is_disjoint_means A' B).1 d))

-- a runtime subtype is disjoint with what the type is disjoint with, on both sides at once
pub runtime_disjoint : {A A' B B' : Ty} → Runtime A A' → Runtime B B' → Disjoint A' B' → Disjoint A B
runtime_disjoint r s d = runtime_disjoint_left r (disjoint_sym (runtime_disjoint_left s (disjoint_sym d)))
