-- The executable tests on types answer exactly what the relations say, and obey the laws that follow. Assumes nothing.
use Prim.Native.Nat.{ℕ}
use mathlib.Core.Path.{◌≡◌, refl, subst}
use mathlib.Core.Logic.Iff
use mathlib.Core.Logic.{◌≢◌}
use mathlib.Core.Bool.{true, false, not, ◌&&◌, ◌||◌}
use lib.Dec.{T, eqb}
use Rattle.calculus.specs.Syntax.{Ty, arrow, inter, field}
use Rattle.calculus.specs.Subtyping.{TopLike, Ordinary, Below, b_top, b_left, b_right}
use Rattle.calculus.specs.Disjointness.{Head, HasHead, d_inter_right, d_heads}
use Rattle.calculus.specs.Decide.{is_top_like, is_below, is_disjoint, disjoint_arrow, disjoint_field}
use Rattle.calculus.proofs.Bools.{T_same, T_true, T_false, and_says}
use Rattle.calculus.proofs.Subtyping.{top_like_above, below_heads, both_say, halves_say, arrows_say, fields_say}
use Rattle.calculus.proofs.Disjointness.{list→disjoint, disjoint→list, list_sym, top_like_list}
-- Proved there, told here:
-- is_top_like_says : (A : Ty) → T (is_top_like A) ↔ TopLike A
-- is_below_says : (A B : Ty) → T (is_below A B) ↔ Below A B
-- is_disjoint_says : (A B : Ty) → T (is_disjoint A B) ↔ DisjointByList A B
pub use Rattle.calculus.proofs.Subtyping.{is_top_like_says, is_below_says}
pub use Rattle.calculus.proofs.Disjointness.{is_disjoint_says}

pub is_top_like_true : (A : Ty) → TopLike A → is_top_like A ≡ true
is_top_like_true A = T_true (is_top_like_says A)

pub is_top_like_false : (A : Ty) → ¬ TopLike A → is_top_like A ≡ false
is_top_like_false A = T_false (is_top_like_says A)

pub is_below_true : {A B : Ty} → Below A B → is_below A B ≡ true
is_below_true {A} {B} = T_true (is_below_says A B)

pub not_top_like_lem : (A : Ty) → is_top_like A ≡ false → ¬ TopLike A
not_top_like_lem A e t = subst T e ((is_top_like_says A).1 t)

pub is_below_top_like : (A B : Ty) → T (is_top_like B) → is_below A B ≡ true
is_below_top_like A B t = is_below_true (b_top ((is_top_like_says B).0 t))

pub is_below_from_top_like : (A B : Ty) → T (is_top_like A) → is_top_like B ≡ false → is_below A B ≡ false
is_below_from_top_like A B t e = T_false (is_below_says A B) (λ b. not_top_like_lem B e (top_like_above ((is_top_like_says A).0 t) b))

pub is_below_heads : {A B : Ty} {h k : Head} → HasHead A h → HasHead B k → h ≢ k → is_top_like B ≡ false → is_below A B ≡ false
is_below_heads {A} {B} h k n e = T_false (is_below_says A B) (λ b. not_top_like_lem B e (below_heads h k n b))

pub is_below_inter_right : (A B C : Ty) → is_below A (inter B C) ≡ (is_below A B && is_below A C)
is_below_inter_right A B C = T_same (is_below_says A (inter B C)) (both_say (is_below A B) (is_below A C) (is_below_says A B) (is_below_says A C))

pub is_below_inter_left : (A B C : Ty) → Ordinary C → is_top_like C ≡ false → is_below (inter A B) C ≡ (is_below A C || is_below B C)
is_below_inter_left A B C o e =
    T_same (is_below_says (inter A B) C) (halves_say (is_below A C) (is_below B C) o (not_top_like_lem C e) (is_below_says A C) (is_below_says B C))

pub is_below_arrow : (A B C D : Ty) → is_top_like D ≡ false → is_below (arrow A B) (arrow C D) ≡ (is_below C A && is_below B D)
is_below_arrow A B C D e =
    T_same (is_below_says (arrow A B) (arrow C D)) (arrows_say (is_below C A) (is_below B D) (not_top_like_lem D e) (is_below_says C A) (is_below_says B D))

pub is_below_field : (l k : ℕ) (A B : Ty) → is_top_like B ≡ false → is_below (field l A) (field k B) ≡ (eqb l k && is_below A B)
is_below_field l k A B e = T_same (is_below_says (field l A) (field k B)) (fields_say (is_below A B) (not_top_like_lem B e) (is_below_says A B))

pub is_disjoint_top_like_left : (A B : Ty) → T (is_top_like A) → is_disjoint A B ≡ true
is_disjoint_top_like_left A B t = T_true (is_disjoint_says A B) (top_like_list A B ((is_top_like_says A).0 t))

pub is_disjoint_top_like_right : (A B : Ty) → T (is_top_like B) → is_disjoint A B ≡ true
is_disjoint_top_like_right A B t = T_true (is_disjoint_says A B) (list_sym (top_like_list B A ((is_top_like_says B).0 t)))

pub is_disjoint_heads : {A B : Ty} {h k : Head} → HasHead A h → HasHead B k → h ≢ k → is_disjoint A B ≡ true
is_disjoint_heads {A} {B} h k n = T_true (is_disjoint_says A B) (d_heads h k n)

pub is_disjoint_inter_left : (A B C : Ty) → is_disjoint (inter A B) C ≡ (is_disjoint A C && is_disjoint B C)
unfolding is_disjoint
is_disjoint_inter_left A B C = refl

pub is_disjoint_inter_right : (A B C : Ty) → is_disjoint A (inter B C) ≡ (is_disjoint A B && is_disjoint A C)
is_disjoint_inter_right A B C =
    T_same (is_disjoint_says A (inter B C))
    (Iff.trans (and_says (is_disjoint A B) (is_disjoint A C) (is_disjoint_says A B) (is_disjoint_says A C)) (
      λ p. d_inter_right p.0 p.1,
      λ d. (
        disjoint→list A B (λ D b c. list→disjoint d D b (b_left c)),
        disjoint→list A C (λ D b c. list→disjoint d D b (b_right c)),
      ),
    ))

pub is_disjoint_arrow : (A B C D : Ty) → is_disjoint (arrow A B) (arrow C D) ≡ is_disjoint B D
unfolding is_disjoint disjoint_arrow
is_disjoint_arrow A B C D = refl

pub is_disjoint_field : (l k : ℕ) (A B : Ty) → is_disjoint (field l A) (field k B) ≡ (not (eqb l k) || is_disjoint A B)
unfolding is_disjoint disjoint_field
is_disjoint_field l k A B = refl
